-- How a scanner comes into the swap of a descriptor.
use Rattle.std.specs.Prelude.{ℕ, Ok, Result}
use Rattle.refusals.specs.declared.refusal.Refusal.{Refusal}
use Rattle.memory.specs.Seen.{Seen}
use Rattle.memory.specs.Reads.{on_ok, descriptor_at}
use Rattle.swap_access.specs.declared.effect.Effect.{Effect}
use Rattle.swap_access.specs.declared.position.Next.TheVariants.{At, Ended}
use Rattle.words.specs.declared.word.Word.TheVariants.{Descriptor, Mark}
use Rattle.records.specs.declared.entries.Descriptor.{Descriptor as Record}
use Rattle.memory.specs.declared.meaning.Outcome.{Outcome}
use Rattle.memory.specs.declared.meaning.Outcome.TheVariants.{Undecided, Success, SecondFailed, DecidedBy}
use Rattle.swap_access.specs.declared.position.End.TheVariants.{FirstFailed, Helped}
use Rattle.swap_access.specs.declared.position.Met.{Met}
use Rattle.swap_access.specs.declared.position.Met.TheVariants.{Descriptor as by_descriptor, Mark as by_mark}
use Rattle.swap_access.specs.declared.position.Position.{Position}
use Rattle.swap_access.specs.declared.position.Position.TheVariants.{Clean, PlaceMark}
use Rattle.swap_access.specs.Effects.{no_write}
use Rattle.swap_access.specs.Found.{outcome_at}
use Rattle.swap_access.specs.Accesses.{install, remove}

-- p1: o1 → d; place mark is next, or the end is "first failed"
abbrev pub at_publish : Seen → ℕ → Result Effect Refusal
at_publish m d = on_ok (descriptor_at m d) λ x. install m x.first.address x.first.old (Descriptor d) (At (PlaceMark d)) (Ended FirstFailed)

-- where a helper goes that read the result
abbrev pub helps : ℕ → Met → Outcome → Position
helps d met Undecided = PlaceMark d
helps d met Success = Clean d met
helps d met SecondFailed = Clean d met
helps d met (DecidedBy winner) = PlaceMark d

abbrev pub at_read_result : Seen → ℕ → Met → Result Effect Refusal
at_read_result m d met = on_ok (outcome_at m d) λ found. Ok (no_write (At (helps d met found)))

-- p1: d → o1, or p2: the mark that was met → o2; whatever it finds, the help ends
abbrev pub cleans : Seen → ℕ → Met → Record → Result Effect Refusal
cleans m d by_descriptor x = remove m x.first.address (Descriptor d) x.first.old (Ended Helped)
cleans m d (by_mark s) x = remove m x.second.address (Mark s d) x.second.old (Ended Helped)

abbrev pub at_clean : Seen → ℕ → Met → Result Effect Refusal
at_clean m d met = on_ok (descriptor_at m d) (cleans m d met)
