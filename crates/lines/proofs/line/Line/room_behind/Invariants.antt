-- What is left of the room, and the numbers that it is left for.
use Rattle.std.proofs.Common.{◌≡◌, ◌+◌, length, drop}
use Rattle.std.specs.List.{flat_map}
use Rattle.lines.specs.Lines.{word_of, line_of}
use Rattle.lines.proofs.line.Line.room_behind.Given as goal

abbrev pub invariant-loop-n : goal.invariant-loop-n
invariant-loop-n l = l.left + length (line_of l.self.first l.self.rest.now) ≡ l.room + length (flat_map word_of (drop l.n-index l.n-items))
