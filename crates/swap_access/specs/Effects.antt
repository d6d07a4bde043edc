-- What an access does.
use Rattle.std.specs.Prelude.{ℕ, Bool, cond, Some, None}
use Rattle.swap_access.specs.declared.effect.Effect.{Effect}
use Rattle.swap_access.specs.declared.effect.Write.TheVariants.{Word, Result}
use Rattle.swap_access.specs.declared.position.End.TheVariants.{Success, SecondFailed}
use Rattle.swap_access.specs.declared.position.Next.{Next}
use Rattle.swap_access.specs.declared.position.Next.TheVariants.{Ended}

abbrev pub no_write : Next → Effect
no_write n = record { write = None; next = n }

abbrev pub word_write : ℕ → ℕ → Next → Effect
word_write a w n = record { write = Some (Word a w); next = n }

abbrev pub result_write : ℕ → ℕ → Next → Effect
result_write d r n = record { write = Some (Result d r); next = n }

-- the end that a result of success or of second failed says
abbrev pub end_of : Bool → Next
end_of success = cond success (Ended Success) (Ended SecondFailed)
