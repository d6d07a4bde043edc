-- The beginning of a board.
use Rattle.std.specs.Prelude.{ℕ, Bool, cond, ◌&&◌, length, replicate, Ok, Err, Result, ◌==◌, nat_le}
use Rattle.refusals.specs.declared.refusal.Refusal.{Refusal}
use Rattle.refusals.specs.declared.refusal.Refusal.TheVariants.{TableLength}
use Rattle.records.specs.Tables.{Tables, tables, zero_node, zero_descriptor, zero_scanner}
use Rattle.board.specs.Rooms.{untaken}
use Rattle.board.specs.Numbers.{Numbers}

-- 64 tray words, 1 to 4,095 nodes, 1 to 4,095 descriptors, 16 scanner records
abbrev pub has_lengths : Tables → Bool
has_lengths t =
    (length t.words == 64)
    && (length t.scanners == 16
    && ((nat_le 1 (length t.nodes) && nat_le (length t.nodes) 4095)
    && (nat_le 1 (length t.descriptors) && nat_le (length t.descriptors) 4095)))

-- a board with no tray, no crew, and no place taken
abbrev pub bare : ℕ → ℕ → Numbers
bare node_room descriptor_room = record { trays = 0; crew = 0; kinds = 0; nodes = untaken node_room; descriptors = untaken descriptor_room }

abbrev pub begins : Tables → Result Numbers Refusal
begins t = cond (has_lengths t) (Ok (bare (length t.nodes) (length t.descriptors))) (Err TableLength)

-- the tables afterwards: every entry zero, or all as they were where the board is refused
abbrev pub zeroed : Tables → Tables
zeroed t =
    cond (has_lengths t)
    (tables (replicate (length t.words) 0) (replicate (length t.nodes) zero_node) (replicate (length t.descriptors) zero_descriptor) (replicate (length t.scanners) zero_scanner))
    t
