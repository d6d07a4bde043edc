use Rattle.std.proofs.Common.{rules}
use Rattle.session.proofs.Shown.{equals_shown}
use Rattle.session.proofs.play.play.Goals as goal

pub returns : goal.returns
returns c =
    record {
      answer = search rules;
      after = search rules;
      law = equals_shown c.args.bytes.now c.args.out.now _ _ (search rules) (search rules);
    }
