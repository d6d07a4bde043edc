-- The parcels along next words, by what the words stand for.
use Rattle.std.specs.Prelude.{ℕ, zero, suc, cond, List, [], ◌∷◌, ◌++◌, length, take, drop, Some, None, Ok, Err, Option, Result, ◌==◌}
use Rattle.refusals.specs.declared.refusal.Refusal.{Refusal}
use Rattle.refusals.specs.declared.refusal.Refusal.TheVariants.{Torn}
use Rattle.records.specs.declared.entries.Node.{Node}
use Rattle.memory.specs.Seen.{Seen}
use Rattle.memory.specs.Reads.{on_ok, node_at}
use Rattle.memory.specs.Meaning.{stands_for}

-- the node to which a word leads: none from nil
abbrev pub led_to : Seen → ℕ → Result (Option Node) Refusal
led_to m w = on_ok (stands_for m w) λ n. cond (n == 0) (Ok None) (on_ok (node_at m n) λ x. Ok (Some x))

-- nil ends the list, and a node gives its parcel and goes on with its next word
abbrev pub onward : Option Node → (ℕ → Result (List ℕ) Refusal) → Result (List ℕ) Refusal
onward None on = Ok []
onward (Some x) on = on_ok (on x.next) λ xs. Ok (x.parcel ∷ xs)

-- from a word on, through fewer than so many nodes
abbrev pub walked_below : Seen → ℕ → ℕ → Result (List ℕ) Refusal
walked_below m zero w = Err Torn
walked_below m (suc k) w = on_ok (led_to m w) λ o. onward o (λ v. walked_below m k v)

-- from a word on, through at most so many nodes
abbrev pub walked : Seen → ℕ → ℕ → Result (List ℕ) Refusal
walked m most w = walked_below m (suc most) w

-- how many there are
abbrev pub counted : Result (List ℕ) Refusal → Result ℕ Refusal
counted r = on_ok r λ xs. Ok (length xs)

-- those of them for which there is room, in front of what stands behind them; on a refusal all as it was
abbrev pub laid : Result (List ℕ) Refusal → List ℕ → List ℕ
laid (Ok xs) ps = take (length ps) xs ++ drop (length xs) ps
laid (Err e) ps = ps
