-- The kinds of the trays, packed: digit t of four bits is the kind number of tray t.
use Rattle.std.specs.Prelude.{ℕ, ◌*◌, ◌/◌, ◌%◌, ◌^◌, min, cond, Some, None, Option, nat_lt}
use Rattle.board.specs.Numbers.{Numbers}

-- a board keeps kind numbers up to 15, and takes a higher one as 15
abbrev pub capped : ℕ → ℕ
capped kind = min kind 15

abbrev pub kind_of : Numbers → ℕ → Option ℕ
kind_of n tray = cond (nat_lt tray n.trays) (Some (n.kinds / 2 ^ (4 * tray) % 16)) None
