-- The four tables that are lent to a call together.
use Rattle.std.specs.Prelude.{◌≡◌}
use Rattle.records.specs.Tables.{Tables, tables}
use Rattle.board.specs.declared.tables.LentTables.{LentTables}

-- what they hold
abbrev pub held : LentTables → Tables
held l = tables l.words.now l.nodes.now l.descriptors.now l.scanners.now

-- The call leaves the very tables that it was lent: what it wrote, it wrote there.
pub record SameTables (l l' : LentTables) : Type 0 where
  pub words : l'.words.ghost_name ≡ l.words.ghost_name
  pub nodes : l'.nodes.ghost_name ≡ l.nodes.ghost_name
  pub descriptors : l'.descriptors.now ≡ l.descriptors.now
  pub scanners : l'.scanners.now ≡ l.scanners.now
