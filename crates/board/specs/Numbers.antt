-- A board by its numbers.
use Rattle.std.specs.Prelude.{ℕ, Bool, ◌&&◌, length, ◌==◌}
use Rattle.records.specs.Tables.{Tables}
use Rattle.board.specs.Rooms.{Counts}

pub record Numbers : Type 0 where
  pub trays : ℕ
  pub crew : ℕ
  pub kinds : ℕ
  pub nodes : Counts
  pub descriptors : Counts

-- whether the tables have the lengths that the board was begun with
abbrev pub fits : Numbers → Tables → Bool
fits n t =
    (length t.words == 64)
    && (length t.scanners == 16
    && (length t.nodes == n.nodes.room
    && length t.descriptors == n.descriptors.room))
