-- What an order's text says.
use Rattle.std.specs.Prelude.{ℕ, cond, List, [], ◌∷◌, Ok, Err, Result, ◌==◌, slice_index}
use Rattle.refusals.specs.declared.refusal.Refusal.{Refusal}
use Rattle.refusals.specs.declared.refusal.Refusal.TheVariants.{Wording}
use Rattle.orders.specs.declared.order.Order.{Order}
use Rattle.orders.specs.declared.order.Order.TheVariants.{LayQueue, LayStack, Start}
use Rattle.refusals.specs.Answered.{on_ok}
use Rattle.orders.specs.Numbers.{numbers_of}

-- by the codes of the letters: R and C take no number, N takes the crew
abbrev pub by_letter : ℕ → List ℕ → Result Order Refusal
by_letter letter numbers =
    cond (letter == 82) (on_ok (numbers_of 0 numbers) λ _. Ok LayQueue)
    (cond (letter == 67) (on_ok (numbers_of 0 numbers) λ _. Ok LayStack)
    (cond (letter == 78) (on_ok (numbers_of 1 numbers) λ ns. Ok (Start (slice_index ns 0)))
    (Err Wording)))

-- the letter comes first
abbrev pub order_of : List ℕ → Result Order Refusal
order_of [] = Err Wording
order_of (letter ∷ numbers) = by_letter letter numbers
