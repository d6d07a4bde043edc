-- How an order is spelled.
use Rattle.std.specs.Prelude.{◌≡◌, ℕ, ◌^◌, ◌<◌, List, [], ◌∷◌, decimal, Result, MatchResult}
use Rattle.std.specs.List.{flat_map, AllByRecursion}
use Rattle.refusals.specs.declared.refusal.Refusal.{Refusal}
use Rattle.refusals.specs.declared.refusal.Refusal.TheVariants.{Wording}
use Rattle.orders.specs.declared.order.Order.{Order}
use Rattle.orders.specs.declared.order.Order.TheVariants.{LayQueue, LayStack, Start}

-- the codes of R, C and N
abbrev pub letter_of : Order → ℕ
letter_of LayQueue = 82
letter_of LayStack = 67
letter_of (Start crew) = 78

abbrev pub numbers_in : Order → List ℕ
numbers_in LayQueue = []
numbers_in LayStack = []
numbers_in (Start crew) = crew ∷ []

-- a number, with the space before it (as in lines, which prints; neither crate uses the other)
abbrev pub word_of : ℕ → List ℕ
word_of n = 32 ∷ decimal n

abbrev pub spelled : Order → List ℕ
spelled o = letter_of o ∷ flat_map word_of (numbers_in o)

-- each number fits 32 bits
abbrev pub Small : Order → Type 0
Small o = AllByRecursion (λ n. n < 2 ^ 32) (numbers_in o)

-- the text is an order's
abbrev pub Says : List ℕ → Order → Type 0
Says text o = Small o × (text ≡ spelled o)

-- an answer is an order that the text spells, or the refusal of a text that spells none
abbrev pub Understood : List ℕ → Result Order Refusal → Type 0
Understood text r = MatchResult r (Says text) (λ e. (e ≡ Wording) × ((o : Order) → Says text o → ⊥))
