-- What clauses see of a board and of a table's room.
use Rattle.board.specs.declared.board.Board.TheInside.{Inside as BoardFields}
use Rattle.board.specs.declared.room.Room.TheInside.{Inside as RoomFields}
use Rattle.board.specs.Rooms.{Counts}
use Rattle.board.specs.Numbers.{Numbers}

abbrev pub counts : RoomFields → Counts
counts r = record { room = r.room; taken = r.taken }

abbrev pub numbers : BoardFields → Numbers
numbers b = record { trays = b.trays; crew = b.crew; kinds = b.kinds; nodes = b.nodes; descriptors = b.descriptors }
