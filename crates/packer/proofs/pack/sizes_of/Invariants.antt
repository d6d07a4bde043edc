-- What was counted and what is left come to the whole.
use Rattle.std.proofs.Common.{◌≡◌, ◌+◌, length}
use Rattle.packer.specs.Lines.{lines_of}
use Rattle.packer.specs.Packed.{all_bytes}
use Rattle.packer.proofs.pack.sizes_of.Given as goal

abbrev pub invariant-loop-line : goal.invariant-loop-line
invariant-loop-line l =
    (l.count + length (lines_of l.line-iterator.left.now) ≡ length (lines_of l.lines))
    × (l.bytes + length (all_bytes (lines_of l.line-iterator.left.now)) ≡ length (all_bytes (lines_of l.lines)))
