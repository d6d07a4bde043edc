-- What an order does to the board, and what it answers.
use Rattle.std.specs.Prelude.{ℕ, List, Ok, Err, Result}
use Rattle.refusals.specs.declared.refusal.Refusal.{Refusal}
use Rattle.refusals.specs.declared.refusal.Refusal.TheVariants.{OutOfPhase}
use Rattle.records.specs.Tables.{Tables}
use Rattle.kinds.specs.Plans.{Plan, pick}
use Rattle.queue.specs.Queue.{queue_plan}
use Rattle.stack.specs.Stack.{stack_plan}
use Rattle.board.specs.Numbers.{Numbers}
use Rattle.board.specs.Lays.{Laid, lays}
use Rattle.board.specs.Phases.{started}
use Rattle.orders.specs.declared.order.Order.{Order}
use Rattle.orders.specs.declared.order.Order.TheVariants.{LayQueue, LayStack, Start}
use Rattle.orders.specs.Orders.{order_of}
use Rattle.obey.specs.declared.phase.Phase.{Phase}
use Rattle.obey.specs.declared.phase.Phase.TheVariants.{LaidOut, Running}
use Rattle.obey.specs.declared.phase.Reply.{Reply}
use Rattle.obey.specs.declared.phase.Reply.TheVariants.{Laid as LaidTray, Started}
use Rattle.obey.specs.declared.phase.Obeyed.{Obeyed}

-- an order's answer with the board after it, and the tables
pub record Done : Type 0 where
  pub done : Obeyed
  pub tables : Tables

abbrev pub did : Obeyed → Tables → Done
did obeyed t = record { done = obeyed; tables = t }

-- the kinds of tray that the program has: number 0 is the queue, and 1 the stack
abbrev pub depot_plan : ℕ → Plan
depot_plan = pick (λ k. queue_plan) (λ k. stack_plan)

abbrev pub laid_reply : Result ℕ Refusal → Result Reply Refusal
laid_reply (Ok tray) = Ok (LaidTray tray)
laid_reply (Err e) = Err e

abbrev pub after_lay : Laid → Done
after_lay l = did (record { phase = LaidOut l.board; reply = laid_reply l.answer }) l.tables

-- trays are laid before the start
abbrev pub lays_in : Phase → ℕ → Tables → Done
lays_in (LaidOut n) kind t = after_lay (lays depot_plan n t kind)
lays_in (Running n) kind t = did (record { phase = Running n; reply = Err OutOfPhase }) t

abbrev pub after_start : Result Numbers (Numbers × Refusal) → Obeyed
after_start (Ok n) = record { phase = Running n; reply = Ok Started }
after_start (Err e) = record { phase = LaidOut e.0; reply = Err e.1 }

-- and the board starts once
abbrev pub starts_in : Phase → ℕ → Obeyed
starts_in (LaidOut n) crew = after_start (started n crew)
starts_in (Running n) crew = record { phase = Running n; reply = Err OutOfPhase }

abbrev pub does : Phase → Result Order Refusal → Tables → Done
does p (Ok LayQueue) t = lays_in p 0 t
does p (Ok LayStack) t = lays_in p 1 t
does p (Ok (Start crew)) t = did (starts_in p crew) t
does p (Err e) t = did (record { phase = p; reply = Err e }) t

abbrev pub obeys : Phase → List ℕ → Tables → Done
obeys p text t = does p (order_of text) t
