-- What the lines of a text are: none holds a line feed, and each with a line feed behind it, they are the text.
use Rattle.std.specs.Prelude.{◌≡◌, ℕ, cond, List, [], ◌∷◌, ◌++◌, ◌==◌, ◌≢◌}
use Rattle.std.specs.List.{AllByRecursion}
use Rattle.packer.specs.Lines.{lines_of}

-- each line, and a line feed behind it
abbrev pub with_feeds : List (List ℕ) → List ℕ
with_feeds [] = []
with_feeds (l ∷ ls) = l ++ (10 ∷ with_feeds ls)

-- the text with a line feed behind its last line, if it lacks one
abbrev pub ended : List ℕ → List ℕ
ended [] = []
ended (b ∷ []) = cond (b == 10) (b ∷ []) (b ∷ 10 ∷ [])
ended (b ∷ (c ∷ rest)) = b ∷ ended (c ∷ rest)

pub record Pieces (text : List ℕ) : Type 0 where
  pub whole : with_feeds (lines_of text) ≡ ended text
  pub no_feed : AllByRecursion (λ line. AllByRecursion (λ b. b ≢ 10) line) (lines_of text)
