use Rattle.std.proofs.Common.{[], ◌∷◌, ◌++◌, decimal, ap, ◌∙◌, append_assoc, arith}
use Rattle.std.specs.List.{flat_map}
use Rattle.std.proofs.lemmas.Grind.{common_steps}
use Rattle.std.proofs.lemmas.List.{take_all}
use Rattle.lines.specs.Lines.{word_of}
use Rattle.lines.specs.Places.{placed}
use Rattle.lines.proofs.Front.{pushed}
use Rattle.lines.proofs.Words.{word_ends, word_written}
use Rattle.lines.proofs.line.Line.write.Goals as goal

pub loop-n-preserved : goal.loop-n-preserved
loop-n-preserved c =
    let line = c.args.self.now in
    let loop = c.loop-n in
    let wrote = c.write_digits-end-in-loop-n.ensures in
    record {
      end = word_ends (decimal line.first) line.rest.now loop.n-index c.loop-n-test.true _ _ loop.invariant.end wrote.answer;
      out = word_written (decimal line.first) line.rest.now loop.n-index c.loop-n-test.true _ _ _ _ (omega arith) loop.invariant.end loop.invariant.out wrote.after;
      room = grind (arith, common_steps);
    }

pub returns-clause-after : goal.returns-clause-after
returns-clause-after c =
    let line = c.args.self.now in
    let head = decimal line.first in
    let all = ap (λ l. head ++ flat_map word_of l) (take_all c.loop-n.n-index line.rest.now c.loop-n-test.false) in
    pushed c.args.out.now _ c.loop-n.out c.loop-n.end c.loop-n.invariant.out c.loop-n.invariant.end 10 (omega arith)
    ∙ ap (λ l. placed c.args.out.now 0 (l ++ (10 ∷ []))) all
    ∙ ap (placed c.args.out.now 0) (append_assoc head (flat_map word_of line.rest.now) (10 ∷ []))
