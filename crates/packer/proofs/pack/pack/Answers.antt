use Rattle.std.proofs.Common.{vec_items, arith}
use Rattle.packer.proofs.Fits.{not_too_long, has_texts}
use Rattle.packer.proofs.Whole.{pieces}
use Rattle.packer.proofs.pack.pack.Goals as goal

pub returns-then-lines-gt-MOST-clause-lines : goal.returns-then-lines-gt-MOST-clause-lines
returns-then-lines-gt-MOST-clause-lines c = pieces _

pub returns-then-sizes-gt-MOST-clause-lines : goal.returns-then-sizes-gt-MOST-clause-lines
returns-then-sizes-gt-MOST-clause-lines c = pieces _

pub returns-clause-lines : goal.returns-clause-lines
returns-clause-lines c = pieces _

pub returns-clause-too_long : goal.returns-clause-too_long
returns-clause-too_long c =
    let sizes = c.sizes_of-sizes.ensures in
    not_too_long c.args.lines.now _ _ sizes.count sizes.bytes (omega arith) vec_items _ c.write_file.ensures

pub returns-clause-reads_back : goal.returns-clause-reads_back
returns-clause-reads_back c =
    let sizes = c.sizes_of-sizes.ensures in
    has_texts c.args.lines.now _ _ sizes.count sizes.bytes (omega arith) vec_items _ c.write_file.ensures
