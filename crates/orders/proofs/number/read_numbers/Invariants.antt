-- What is left to read, after the numbers that were read, gives what all of them give.
use Rattle.std.proofs.Common.{◌≡◌, ◌-◌, length, take}
use Rattle.orders.specs.Numbers.{numbers_of}
use Rattle.orders.proofs.Counted.{after}
use Rattle.orders.proofs.number.read_numbers.Given as goal

abbrev pub invariant-loop-place : goal.invariant-loop-place
invariant-loop-place g l =
    (length l.place-items ≡ g.row.K) × (after (take l.place-index l.place-items) (numbers_of (g.row.K - l.place-index) l.left) ≡ numbers_of g.row.K l.text)
