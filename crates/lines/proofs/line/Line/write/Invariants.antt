-- The numbers before number i are written, and there is room for the others.
use Rattle.std.proofs.Common.{◌≡◌, ◌+◌, ◌++◌, ◌<◌, length, take, drop, decimal}
use Rattle.std.specs.List.{flat_map}
use Rattle.lines.specs.Lines.{word_of}
use Rattle.lines.specs.Places.{placed}
use Rattle.lines.proofs.line.Line.write.Given as goal

abbrev pub invariant-loop-n : goal.invariant-loop-n
invariant-loop-n l =
    record {
      end : l.end ≡ length (decimal l.self.first ++ flat_map word_of (take l.n-index l.n-items));
      out : l.out ≡ placed l.fn.out 0 (decimal l.self.first ++ flat_map word_of (take l.n-index l.n-items));
      room : l.end + length (flat_map word_of (drop l.n-index l.n-items)) < length l.out;
    }
