-- One step of a scanner in a two-word swap.
use Rattle.std.specs.Prelude.{ℕ, Ok, Err, Result, Option}
use Rattle.refusals.specs.declared.refusal.Refusal.{Refusal}
use Rattle.memory.specs.Seen.{Seen, seen}
use Rattle.memory.specs.Reads.{on_ok}
use Rattle.swap_access.specs.declared.effect.Effect.{Effect}
use Rattle.swap_access.specs.declared.effect.Write.{Write}
use Rattle.swap_access.specs.declared.position.Next.{Next}
use Rattle.swap_access.specs.declared.position.Position.{Position}
use Rattle.swap.specs.Dispatch.{decided}
use Rattle.swap_step.specs.Writes.{words_after, nodes_after, descriptors_after}

-- where the scanner stands after the step
abbrev pub stepped : Seen → ℕ → Position → Result Next Refusal
stepped m me at = on_ok (decided m me at) λ e. Ok e.next

-- the tables after a write
abbrev pub written : Option Write → Seen → Seen
written w m = seen (words_after w m.words) (nodes_after w m.nodes) m.nodes_taken (descriptors_after w m.descriptors) m.descriptors_taken

-- the tables after an access: a refusal leaves them as found
abbrev pub left_by : Result Effect Refusal → Seen → Seen
left_by (Ok e) m = written e.write m
left_by (Err refusal) m = m

-- the tables after the step
abbrev pub left : Seen → ℕ → Position → Seen
left m me at = left_by (decided m me at) m
