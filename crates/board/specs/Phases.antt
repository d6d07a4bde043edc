-- The start of a board.
use Rattle.std.specs.Prelude.{ℕ, cond, ◌&&◌, Ok, Err, Result, nat_le}
use Rattle.refusals.specs.declared.refusal.Refusal.{Refusal}
use Rattle.refusals.specs.declared.refusal.Refusal.TheVariants.{CrewSize}
use Rattle.board.specs.Numbers.{Numbers}

abbrev pub with_crew : Numbers → ℕ → Numbers
with_crew n crew = record n { crew = crew }

-- the board that runs, or the board given back with the refusal
abbrev pub started : Numbers → ℕ → Result Numbers (Numbers × Refusal)
started n crew = cond (nat_le 1 crew && nat_le crew 16) (Ok (with_crew n crew)) (Err (n, CrewSize))
