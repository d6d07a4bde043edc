-- The result of a descriptor.
use Rattle.std.specs.Prelude.{ℕ, Bool, true, false, Ok, Result}
use Rattle.refusals.specs.declared.refusal.Refusal.{Refusal}
use Rattle.memory.specs.Seen.{Seen}
use Rattle.memory.specs.Reads.{on_ok, descriptor_at}
use Rattle.swap_access.specs.declared.effect.Effect.{Effect}
use Rattle.swap_access.specs.declared.position.Next.TheVariants.{At}
use Rattle.words.specs.declared.word.Word.TheVariants.{Mark}
use Rattle.memory.specs.declared.meaning.Outcome.{Outcome}
use Rattle.memory.specs.declared.meaning.Outcome.TheVariants.{Undecided, Success, SecondFailed, DecidedBy}
use Rattle.swap_access.specs.declared.position.Position.TheVariants.{GiveBack, FinishFirst}
use Rattle.swap_access.specs.Effects.{no_write, result_write, end_of}
use Rattle.swap_access.specs.Found.{number_of, outcome_at}
use Rattle.swap.specs.Ends.{after_decision}

-- result: 1 → 3
abbrev pub fails : ℕ → Outcome → Effect
fails d Undecided = result_write d 3 (At (GiveBack d))
fails d Success = no_write (end_of true)
fails d SecondFailed = no_write (At (GiveBack d))
fails d (DecidedBy winner) = no_write (At (FinishFirst d winner))

abbrev pub at_try_to_fail : Seen → ℕ → Result Effect Refusal
at_try_to_fail m d = on_ok (outcome_at m d) λ found. Ok (fails d found)

-- result: 1 → the mark of scanner s, whose number is w
abbrev pub decides : ℕ → ℕ → ℕ → Bool → Outcome → Effect
decides w d s placed Undecided = result_write d w (At (FinishFirst d s))
decides w d s placed Success = no_write (after_decision d placed true)
decides w d s placed SecondFailed = no_write (after_decision d placed false)
decides w d s placed (DecidedBy winner) = no_write (At (FinishFirst d winner))

abbrev pub at_decide : Seen → ℕ → ℕ → Bool → Result Effect Refusal
at_decide m d s placed = on_ok (number_of (Mark s d)) λ w. on_ok (outcome_at m d) λ found. Ok (decides w d s placed found)

-- result: 2
abbrev pub at_write_success : Seen → ℕ → Result Effect Refusal
at_write_success m d = on_ok (descriptor_at m d) λ _. Ok (result_write d 2 (end_of true))
