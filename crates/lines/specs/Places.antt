-- Bytes written into an output from a place on, whole or not at all.
use Rattle.std.specs.Prelude.{ℕ, ◌+◌, Bool, cond, List, ◌++◌, length, take, drop, Ok, Err, Result, nat_le}
use Rattle.refusals.specs.declared.refusal.Refusal.{Refusal}
use Rattle.refusals.specs.declared.refusal.Refusal.TheVariants.{OutputFull}

abbrev pub fits_at : List ℕ → ℕ → List ℕ → Bool
fits_at out at bytes = nat_le (at + length bytes) (length out)

-- the output with the bytes in it, where they fit
abbrev pub placed : List ℕ → ℕ → List ℕ → List ℕ
placed out at bytes = take at out ++ (bytes ++ drop (at + length bytes) out)

-- where the bytes end
abbrev pub end_at : List ℕ → ℕ → List ℕ → Result ℕ Refusal
end_at out at bytes = cond (fits_at out at bytes) (Ok (at + length bytes)) (Err OutputFull)

-- what the output then holds
abbrev pub written_at : List ℕ → ℕ → List ℕ → List ℕ
written_at out at bytes = cond (fits_at out at bytes) (placed out at bytes) out
