-- Where the texts of a checked session file lie.
use Rattle.std.specs.Prelude.{ℕ, ◌<◌, ◌≤◌, List, length}
use Rattle.index.specs.Index.{count_of, offset_of, end_of}

pub record Apart (file : List ℕ) : Type 0 where
  -- every text lies in the file
  pub inside : (i : ℕ) → i < count_of file → end_of file i ≤ length file
  -- and has ended before any later one begins
  pub in_turn : (i j : ℕ) → i < j → j < count_of file → end_of file i ≤ offset_of file j
