-- The texts before this one lie as they should, and the last of them ends at `end`.
use Rattle.std.proofs.Common.{◌≡◌, true}
use Rattle.index.specs.Index.{all_lie, end_before}
use Rattle.index.proofs.file.all_lie.Given as goal

abbrev pub invariant-loop-pair : goal.invariant-loop-pair
invariant-loop-pair l = (all_lie l.bytes l.pair-index ≡ true) × (l.end ≡ end_before l.bytes l.pair-index)
