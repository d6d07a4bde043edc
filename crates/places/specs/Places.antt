-- Taking places of a table, upward from 1.
use Rattle.std.specs.Prelude.{◌≡◌, ℕ, ◌+◌, ◌-◌, ◌<◌, ◌≤◌, min, Bool, cond, ◌&&◌, List, length, Some, None, Option, ◌≢◌, nat_lt, slice_index_or, slice_set}

-- whether a place is left in a table of `room` places of which the first `taken` are taken; no word names a place above 4,095
abbrev pub has_place : ℕ → ℕ → Bool
has_place room taken = nat_lt taken 4095 && nat_lt taken room

-- the place that is taken next
abbrev pub next_place : ℕ → ℕ → Option ℕ
next_place room taken = cond (has_place room taken) (Some (taken + 1)) None

-- how many places are taken then
abbrev pub taken_after : ℕ → ℕ → ℕ
taken_after room taken = cond (has_place room taken) (taken + 1) taken

-- place n stands at index n - 1, so the next one stands at index `taken`
abbrev pub table_after : {T : Type 0} → List T → ℕ → T → List T
table_after table taken value = cond (has_place (length table) taken) (slice_set table taken value) table

-- What taking a place means: the place was not taken before and lies in the table, it is taken afterwards and holds the value,
-- and every other place is as it was. None is answered only where every place that a word can name is taken.
pub record Takes {T : Type 0} (before after : List T) (taken taken_then : ℕ) (value : T) (place : ℕ) : Type 0 where
  pub untaken : taken < place
  pub within : place ≤ length before
  pub named : place ≤ 4095
  pub next : taken_then ≡ place
  pub holds : (d : T) → slice_index_or after (place - 1) d ≡ value
  pub others : (n : ℕ) (d : T) → (n ≢ place - 1) → slice_index_or after n d ≡ slice_index_or before n d

pub record Full {T : Type 0} (before after : List T) (taken taken_then : ℕ) : Type 0 where
  pub all_taken : min (length before) 4095 ≤ taken
  pub unchanged : after ≡ before
  pub none_more : taken_then ≡ taken

abbrev pub Taken : {T : Type 0} → List T → List T → ℕ → ℕ → T → Option ℕ → Type 0
Taken before after taken taken_then value (Some place) = Takes before after taken taken_then value place
Taken before after taken taken_then value None = Full before after taken taken_then
