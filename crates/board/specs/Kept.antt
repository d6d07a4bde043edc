-- What is true of every board, laid out or running, and of the room of each table.
use Rattle.std.specs.Prelude.{◌*◌, ◌^◌, ◌<◌, ◌≤◌}
use Rattle.board.specs.Rooms.{Counts}
use Rattle.board.specs.Numbers.{Numbers}

-- the table has 1 to 4,095 places, and no more are taken than it has
pub record RoomKept (c : Counts) : Type 0 where
  pub some_place : 1 ≤ c.room
  pub named : c.room ≤ 4095
  pub within : c.taken ≤ c.room

-- at most 32 trays, each with its kind's digit of four bits, and at most 16 scanners
pub record BoardKept (n : Numbers) : Type 0 where
  pub few_trays : n.trays ≤ 32
  pub small_crew : n.crew ≤ 16
  pub kind_digits : n.kinds < 2 ^ (4 * n.trays)

-- all of it
pub record Kept (n : Numbers) : Type 0 where
  pub board : BoardKept n
  pub nodes : RoomKept n.nodes
  pub descriptors : RoomKept n.descriptors
