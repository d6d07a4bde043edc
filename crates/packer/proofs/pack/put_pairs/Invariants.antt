-- The pairs written so far, with those of the lines that are left, are all pairs.
use Rattle.std.proofs.Common.{◌≡◌, ◌+◌, ◌<◌, ◌++◌, length, vec_items}
use Rattle.packer.specs.Lines.{lines_of}
use Rattle.packer.specs.Packed.{pairs_from, all_bytes}
use Rattle.packer.proofs.pack.put_pairs.Given as goal

abbrev pub invariant-loop-line : goal.invariant-loop-line
invariant-loop-line l =
    (vec_items l.file ++ pairs_from l.offset (lines_of l.line-iterator.left.now) ≡ vec_items l.initial.file ++ pairs_from l.from (lines_of l.lines))
    × (l.offset + length (all_bytes (lines_of l.line-iterator.left.now)) < 65536)
