-- The plain rule of a kind: where a put adds its one parcel, and which one parcel a take gives and removes.
use Rattle.std.specs.Prelude.{ℕ, ◌+◌, ◌<◌, List, [], ◌∷◌, ◌++◌, length, take, drop, slice_index}

pub record Rule : Type 0 where
  -- the place of a put's parcel among those that are there, counted from 0
  pub adds_at : ℕ → List ℕ → ℕ
  -- the place of the parcel that a take gives
  pub gives_at : List ℕ → ℕ

-- a take gives one of the parcels that are there
pub record Within (r : Rule) : Type 0 where
  pub gives_within : (x : ℕ) (xs : List ℕ) → r.gives_at (x ∷ xs) < length (x ∷ xs)

-- the list with the parcel in it
abbrev pub adds : Rule → ℕ → List ℕ → List ℕ
adds r x xs = take (r.adds_at x xs) xs ++ x ∷ drop (r.adds_at x xs) xs

-- what a plain list gives: nothing from the empty list alone, else a parcel, and the list without it
pub data Given : Type 0 where
  nothing : Given
  gives : ℕ → List ℕ → Given

abbrev pub yields : Rule → List ℕ → Given
yields r [] = nothing
yields r (x ∷ xs) = gives (slice_index (x ∷ xs) (r.gives_at (x ∷ xs))) (take (r.gives_at (x ∷ xs)) (x ∷ xs) ++ drop (r.gives_at (x ∷ xs) + 1) (x ∷ xs))
