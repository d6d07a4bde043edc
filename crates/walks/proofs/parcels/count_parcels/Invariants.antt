-- What is left of the walk, counted on from here, gives the count of the whole.
use Rattle.std.proofs.Common.{◌≡◌, ◌+◌, ◌-◌}
use Rattle.memory.specs.Lent.{seen_of}
use Rattle.walks.specs.Walked.{walked_below, walked, counted}
use Rattle.walks.proofs.Counting.{counted_on}
use Rattle.walks.proofs.parcels.count_parcels.Given as goal

abbrev pub invariant-loop-count : goal.invariant-loop-count
invariant-loop-count l =
    counted_on l.count (walked_below (seen_of l.memory) (l.memory.nodes_taken + 1 - l.count) l.word)
    ≡ counted (walked (seen_of l.memory) l.memory.nodes_taken l.from)
