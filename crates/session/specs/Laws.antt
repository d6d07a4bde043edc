-- What a session prints, in words of its reader: a heading, and one line for each order, in turn.
use Rattle.std.specs.Prelude.{◌≡◌, ℕ, ◌+◌, ◌≤◌, ◌⊎◌, List, [], ◌∷◌, ◌++◌, length, take, drop, None, Ok, Err}
use Rattle.refusals.specs.declared.refusal.Refusal.TheVariants.{BadIndex}
use Rattle.index.specs.Texts.{texts}
use Rattle.lines.specs.Lines.{line_of}
use Rattle.session.specs.declared.fault.Played.{Played}
use Rattle.session.specs.Plays.{heading}

-- lines that begin with the numbers from `order` on, each with what follows its number
abbrev pub lines_from : ℕ → List (List ℕ) → List ℕ
lines_from order [] = []
lines_from order (v ∷ vs) = line_of order v ++ lines_from (order + 1) vs

-- the file's index is damaged: one line says so, if it fits
pub record Damaged (file shown : List ℕ) : Type 0 where
  pub refused : texts file ≡ Err BadIndex
  pub line : (shown ≡ heading) ⊎ (shown ≡ heading ++ line_of 0 (17 ∷ []))

-- the orders have their lines, each one, in their order; all of them where the session came to its end
pub record Told (file shown : List ℕ) (p : Played) : Type 0 where
  pub orders : List (List ℕ)
  pub opened : texts file ≡ Ok orders
  pub answers : List (List ℕ)
  pub no_more : length answers ≤ length orders
  pub lines : shown ≡ heading ++ lines_from 1 answers
  pub all : p.fault ≡ None → length answers ≡ length orders

-- What stands in front of the output is the session's; what lies behind it is as it was.
pub record Shows (file out out' : List ℕ) (p : Played) : Type 0 where
  pub within : p.written ≤ length out
  pub behind : drop p.written out' ≡ drop p.written out
  pub front : (p.written ≡ 0) ⊎ (Damaged file (take p.written out') ⊎ Told file (take p.written out') p)
