-- The tables as a kind of tray sees them.
use Rattle.std.specs.Prelude.{◌≡◌, ℕ, ◌+◌, ◌<◌, ◌≤◌, length, Ok, Err, Result}
use Rattle.refusals.specs.declared.refusal.Refusal.{Refusal}
use Rattle.memory.specs.Seen.{Seen}
use Rattle.memory.specs.Reads.{on_ok, node_at, word_at}
use Rattle.memory.specs.Meaning.{stands_for}
use Rattle.kinds.specs.Views.{View}

-- the number that was found, or 0
abbrev pub or_zero : Result ℕ Refusal → ℕ
or_zero (Ok n) = n
or_zero (Err e) = 0

-- what the word at an address stands for
abbrev pub meaning_at : Seen → ℕ → Result ℕ Refusal
meaning_at m a = on_ok (word_at m a) (stands_for m)

-- what each address stands for, and the parcel of each node; the trays that nodes belong to are as given
abbrev pub view_of : (m : Seen) → (ℕ → ℕ) → m.nodes_taken ≤ 4095 → View
view_of m own few = record {
  word = λ a. or_zero (meaning_at m a);
  parcel = λ n. or_zero (on_ok (node_at m n) λ x. Ok x.parcel);
  own = own;
  taken = m.nodes_taken;
  few = few;
}

-- The tray words and the next words of taken nodes stand for nil or for taken nodes, and no more is taken than there is room for.
pub record Whole (m : Seen) : Type 0 where
  pub few : m.nodes_taken ≤ 4095
  pub room : m.nodes_taken ≤ length m.nodes
  pub tray_words : (a : ℕ) → a < 64 → (n : ℕ) × (meaning_at m a ≡ Ok n)
  pub next_words : (k : ℕ) → 1 ≤ k → k ≤ m.nodes_taken → (n : ℕ) × (meaning_at m (64 + k) ≡ Ok n)
