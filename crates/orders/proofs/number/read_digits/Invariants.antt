-- What is left of the digits, after those that came to the value, gives what all of them give.
use Rattle.std.proofs.Common.{◌≡◌, length}
use Rattle.orders.specs.Numbers.{digits_of}
use Rattle.orders.proofs.number.read_digits.Given as goal

abbrev pub invariant-loop-rest : goal.invariant-loop-rest
invariant-loop-rest l = digits_of l.value l.rest ≡ digits_of 0 l.text

abbrev pub decreases-loop-rest : goal.decreases-loop-rest
decreases-loop-rest l = length l.rest
