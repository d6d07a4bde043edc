-- The turns of waiting after a failed commit.
use Rattle.std.specs.Prelude.{◌≡◌, ℕ, zero, suc, ◌+◌, ◌*◌, ◌<◌, ◌≤◌, List, [], ◌∷◌, slice_index_or}

-- by failed commits of the request, from the first on
abbrev pub waits : List ℕ
waits = 0 ∷ 1 ∷ 2 ∷ 4 ∷ 8 ∷ 16 ∷ 32 ∷ 64 ∷ []

-- after so many failed commits: 0 after none, and 64 behind the end of the list
abbrev pub turns_after : ℕ → ℕ
turns_after zero = 0
turns_after (suc k) = slice_index_or waits k 64

-- The first failed commit has no wait, the second waits one turn, each later one up to the eighth twice as long as the one before, and from the eighth on the wait stays 64.
pub record Doubling (turns : ℕ → ℕ) : Type 0 where
  pub none : turns 0 ≡ 0
  pub first : turns 1 ≡ 0
  pub second : turns 2 ≡ 1
  pub doubles : (n : ℕ) → 2 ≤ n → n < 8 → turns (n + 1) ≡ 2 * turns n
  pub stays : (n : ℕ) → 8 ≤ n → turns n ≡ 64
