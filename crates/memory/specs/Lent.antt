-- The shared words that are lent, for reading and for writing.
use Rattle.std.specs.Prelude.{◌≡◌}
use Rattle.memory.specs.declared.view.Memory.{Memory}
use Rattle.memory.specs.declared.memory_mut.MemoryMut.{MemoryMut}
use Rattle.memory.specs.Seen.{Seen, seen}

-- what those hold that are lent for reading
abbrev pub seen_of : Memory → Seen
seen_of m = seen m.words.now m.nodes.now m.nodes_taken m.descriptors.now m.descriptors_taken

-- what those hold that are lent for writing
abbrev pub seen_through : MemoryMut → Seen
seen_through m = seen m.words.now m.nodes.now m.nodes_taken m.descriptors.now m.descriptors_taken

-- A call leaves the very tables that it was lent: what it wrote, it wrote there.
pub record SameTables (m m' : MemoryMut) : Type 0 where
  pub words : m'.words.ghost_name ≡ m.words.ghost_name
  pub nodes : m'.nodes.ghost_name ≡ m.nodes.ghost_name
  pub descriptors : m'.descriptors.ghost_name ≡ m.descriptors.ghost_name
