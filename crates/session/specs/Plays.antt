-- A whole session, from the bytes of its file to the bytes of its output.
use Rattle.std.specs.Prelude.{ℕ, ◌+◌, List, [], ◌∷◌, replicate, Some, None, Ok, Err, codes, Result}
use Rattle.refusals.specs.declared.refusal.Refusal.{Refusal}
use Rattle.refusals.specs.Numbers.{number_of}
use Rattle.records.specs.Tables.{Tables, tables, zero_node, zero_descriptor, zero_scanner}
use Rattle.board.specs.Numbers.{Numbers}
use Rattle.board.specs.Begins.{begins, zeroed}
use Rattle.index.specs.Texts.{texts}
use Rattle.lines.specs.Lines.{line_of}
use Rattle.lines.specs.Places.{end_at, written_at}
use Rattle.session.specs.declared.fault.Played.{Played}
use Rattle.obey.specs.declared.phase.Phase.{Phase}
use Rattle.obey.specs.declared.phase.Phase.TheVariants.{LaidOut}
use Rattle.obey.specs.Obeys.{Done, obeys}
use Rattle.obey.specs.Prints.{values}

-- the board in its phase, the tables, and the output, of which the first `at` bytes are written
pub record State : Type 0 where
  pub phase : Phase
  pub tables : Tables
  pub at : ℕ
  pub out : List ℕ

abbrev pub state : Phase → Tables → ℕ → List ℕ → State
state phase t at out = record { phase = phase; tables = t; at = at; out = out }

-- a session that is over: what it answers, the output and the tables
pub record Ended : Type 0 where
  pub answer : Played
  pub out : List ℕ
  pub tables : Tables

abbrev pub ended : Played → List ℕ → Tables → Ended
ended answer out t = record { answer = answer; out = out; tables = t }

abbrev pub whole : ℕ → Played
whole at = record { written = at; fault = None }

abbrev pub broken : ℕ → Refusal → ℕ → Played
broken order cause at = record { written = at; fault = Some (record { order = order; cause = cause }) }

-- after a line: go on from its end, or end the session; the order's work stays done
abbrev pub on_line : ℕ → Result ℕ Refusal → State → (ℕ → Ended) → Ended
on_line order (Ok end) s on = on end
on_line order (Err cause) s on = ended (broken order cause s.at) s.out s.tables

-- the orders from number `order` on, each with its line
abbrev pub after_order : ℕ → Done → State → (State → Ended) → Ended
after_order order d s on =
    on_line order (end_at s.out s.at (line_of order (values d.done.reply))) (state d.done.phase d.tables s.at (written_at s.out s.at (line_of order (values d.done.reply))))
    (λ end. on (state d.done.phase d.tables end (written_at s.out s.at (line_of order (values d.done.reply)))))

abbrev pub orders_from : ℕ → List (List ℕ) → State → Ended
orders_from order [] s = ended (whole s.at) s.out s.tables
orders_from order (text ∷ rest) s = after_order order (obeys s.phase text s.tables) s (orders_from (order + 1) rest)

-- the first line of every output
abbrev pub heading : List ℕ
heading = codes "DAY\n"

-- a file whose index is damaged prints one line, with order 0 and the refusal's number
abbrev pub damaged : Result ℕ Refusal → Refusal → ℕ → Played
damaged (Ok end) refusal at = broken 0 refusal end
damaged (Err cause) refusal at = broken 0 cause at

abbrev pub on_texts : Result (List (List ℕ)) Refusal → State → Ended
on_texts (Ok ts) s = orders_from 1 ts s
on_texts (Err e) s =
    ended (damaged (end_at s.out s.at (line_of 0 (number_of e ∷ []))) e s.at) (written_at s.out s.at (line_of 0 (number_of e ∷ []))) s.tables

abbrev pub on_heading : Result ℕ Refusal → List ℕ → Numbers → Tables → List ℕ → Ended
on_heading (Ok end) file n t out = on_texts (texts file) (state (LaidOut n) t end out)
on_heading (Err cause) file n t out = ended (broken 0 cause 0) out t

abbrev pub on_board : Result Numbers Refusal → List ℕ → List ℕ → Tables → Ended
on_board (Ok n) file out t = on_heading (end_at out 0 heading) file n t (written_at out 0 heading)
on_board (Err cause) file out t = ended (broken 0 cause 0) out t

-- a session on these tables: a board is begun over them, the heading is printed, the index is checked whole, and the orders follow
abbrev pub plays : List ℕ → List ℕ → Tables → Ended
plays file out t = on_board (begins t) file out (zeroed t)

-- the tables of the program
abbrev pub depot_tables : Tables
depot_tables = tables (replicate 64 0) (replicate 1000 zero_node) (replicate 1000 zero_descriptor) (replicate 16 zero_scanner)

abbrev pub session_of : List ℕ → List ℕ → Ended
session_of file out = plays file out depot_tables
