-- Marks at the second address.
use Rattle.std.specs.Prelude.{ℕ, Bool, true, false, cond, Some, None, Ok, Option, Result, ◌==◌}
use Rattle.refusals.specs.declared.refusal.Refusal.{Refusal}
use Rattle.memory.specs.Seen.{Seen}
use Rattle.memory.specs.Reads.{on_ok, descriptor_at}
use Rattle.swap_access.specs.declared.effect.Effect.{Effect}
use Rattle.swap_access.specs.declared.position.Next.TheVariants.{At}
use Rattle.words.specs.declared.word.Word.{Word}
use Rattle.words.specs.declared.word.Word.TheVariants.{Nil, Node, Descriptor, Mark}
use Rattle.words.specs.Words.{told}
use Rattle.swap_access.specs.declared.position.Position.{Position}
use Rattle.swap_access.specs.declared.position.Position.TheVariants.{ReRead, TryToFail, Decide}
use Rattle.swap_access.specs.Effects.{no_write, end_of}
use Rattle.swap_access.specs.Found.{found_at}
use Rattle.swap_access.specs.Accesses.{install, remove}

-- p2: o2 → the own mark; decide with it, or re-read
abbrev pub at_place_mark : Seen → ℕ → ℕ → Result Effect Refusal
at_place_mark m me d = on_ok (descriptor_at m d) λ x. install m x.second.address x.second.old (Mark me d) (At (Decide d me true)) (At (ReRead d))

-- a mark of d is the one to decide with; all else means that the second word differs
abbrev pub re_reads : ℕ → Option Word → Position
re_reads d None = TryToFail d
re_reads d (Some Nil) = TryToFail d
re_reads d (Some (Node n)) = TryToFail d
re_reads d (Some (Descriptor e)) = TryToFail d
re_reads d (Some (Mark s e)) = cond (e == d) (Decide d s false) (TryToFail d)

abbrev pub at_re_read : Seen → ℕ → Result Effect Refusal
at_re_read m d = on_ok (descriptor_at m d) λ x. on_ok (found_at m x.second.address) λ found. Ok (no_write (At (re_reads d (told found))))

-- p2: the own mark → o2; whatever it finds, the end is the one that was found
abbrev pub at_withdraw : Seen → ℕ → ℕ → Bool → Result Effect Refusal
at_withdraw m me d success = on_ok (descriptor_at m d) λ x. remove m x.second.address (Mark me d) x.second.old (end_of success)
