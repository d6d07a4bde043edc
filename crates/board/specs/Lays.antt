-- Laying a tray.
use Rattle.std.specs.Prelude.{ℕ, ◌+◌, ◌*◌, ◌^◌, Bool, true, false, cond, List, Ok, Err, Result, nat_lt, slice_set}
use Rattle.refusals.specs.declared.refusal.Refusal.{Refusal}
use Rattle.refusals.specs.declared.refusal.Refusal.TheVariants.{TableLength, TraysFull, NodesFull}
use Rattle.records.specs.declared.entries.Node.{Node}
use Rattle.records.specs.Tables.{Tables, tables}
use Rattle.places.specs.Places.{has_place}
use Rattle.kinds.specs.Plans.{Plan}
use Rattle.board.specs.Numbers.{Numbers, fits}
use Rattle.board.specs.Kinds.{capped}
use Rattle.board.specs.Takes.{numbers_with_node, nodes_with_node}

-- what a call answers, and the board and the tables that it leaves
pub record Laid : Type 0 where
  pub answer : Result ℕ Refusal
  pub board : Numbers
  pub tables : Tables

abbrev pub laid : Result ℕ Refusal → Numbers → Tables → Laid
laid answer n t = record { answer = answer; board = n; tables = t }

abbrev pub refused : Numbers → Tables → Refusal → Laid
refused n t why = laid (Err why) n t

-- one tray more, of this kind
abbrev pub with_tray : Numbers → ℕ → Numbers
with_tray n kind = record n { trays = n.trays + 1; kinds = n.kinds + kind * 2 ^ (4 * n.trays) }

-- tray t has the words at 2t and 2t + 1
abbrev pub words_opened : List ℕ → ℕ → Plan → ℕ → List ℕ
words_opened words tray plan node = slice_set (slice_set words (2 * tray) (plan.first node)) (2 * tray + 1) (plan.second node)

-- the next tray, opened with `node`
abbrev pub opens_with : Plan → ℕ → Numbers → Tables → ℕ → Laid
opens_with plan kind n t node = record {
  answer = Ok n.trays;
  board = with_tray n kind;
  tables = tables (words_opened t.words n.trays plan node) t.nodes t.descriptors t.scanners;
}

abbrev pub with_nodes : Tables → List Node → Tables
with_nodes t nodes = tables t.words nodes t.descriptors t.scanners

-- a node is taken first if the kind asks for one
abbrev pub opens_tray : Bool → Plan → ℕ → Numbers → Tables → Laid
opens_tray false plan kind n t = opens_with plan kind n t 0
opens_tray true plan kind n t =
    cond (has_place n.nodes.room n.nodes.taken)
    (opens_with plan kind (numbers_with_node n) (with_nodes t (nodes_with_node n t.nodes)) (n.nodes.taken + 1))
    (refused n t NodesFull)

-- the next tray, while fewer than 32 stand, in tables of the board's lengths
abbrev pub lays_kind : Plan → ℕ → Numbers → Tables → Laid
lays_kind plan kind n t =
    cond (fits n t)
    (cond (nat_lt n.trays 32) (opens_tray plan.takes_node plan kind n t) (refused n t TraysFull))
    (refused n t TableLength)

-- a tray of kind number `kind`, of a type whose kinds have these plans
abbrev pub lays : (ℕ → Plan) → Numbers → Tables → ℕ → Laid
lays plan n t kind = lays_kind (plan (capped kind)) (capped kind) n t
