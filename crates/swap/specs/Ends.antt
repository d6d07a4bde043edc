-- How the swap of a descriptor ends once it is decided.
use Rattle.std.specs.Prelude.{ℕ, Bool, false, cond, Result}
use Rattle.refusals.specs.declared.refusal.Refusal.{Refusal}
use Rattle.memory.specs.Seen.{Seen}
use Rattle.memory.specs.Reads.{on_ok, descriptor_at}
use Rattle.swap_access.specs.declared.effect.Effect.{Effect}
use Rattle.swap_access.specs.declared.position.Next.{Next}
use Rattle.swap_access.specs.declared.position.Next.TheVariants.{At}
use Rattle.words.specs.declared.word.Word.TheVariants.{Descriptor, Mark}
use Rattle.swap_access.specs.declared.position.Position.TheVariants.{FinishSecond, WriteSuccess, Withdraw}
use Rattle.swap_access.specs.Effects.{end_of}
use Rattle.swap_access.specs.Accesses.{remove}

-- who placed a mark after the decision takes it away again first
abbrev pub after_decision : ℕ → Bool → Bool → Next
after_decision d placed success = cond placed (At (Withdraw d success)) (end_of success)

-- p1: d → o1; whatever it finds, the end is "second failed"
abbrev pub at_give_back : Seen → ℕ → Result Effect Refusal
at_give_back m d = on_ok (descriptor_at m d) λ x. remove m x.first.address (Descriptor d) x.first.old (end_of false)

-- p1: d → n1; whatever it finds, finish second is next
abbrev pub at_finish_first : Seen → ℕ → ℕ → Result Effect Refusal
at_finish_first m d winner = on_ok (descriptor_at m d) λ x. remove m x.first.address (Descriptor d) x.first.new (At (FinishSecond d winner))

-- p2: the winner's mark → n2; whatever it finds, write success is next
abbrev pub at_finish_second : Seen → ℕ → ℕ → Result Effect Refusal
at_finish_second m d winner = on_ok (descriptor_at m d) λ x. remove m x.second.address (Mark winner d) x.second.new (At (WriteSuccess d winner))
