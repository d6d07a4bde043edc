-- The four tables by what they hold, and their records when a board is begun: all zero.
use Rattle.std.specs.Prelude.{ℕ, List, None}
use Rattle.records.specs.declared.entries.Node.{Node}
use Rattle.records.specs.declared.entries.Swap.{Swap}
use Rattle.records.specs.declared.entries.Descriptor.{Descriptor}
use Rattle.records.specs.declared.scanner.Scanner.{Scanner}
use Rattle.records.specs.declared.scanner.Look.TheVariants.{None as no_look}

pub record Tables : Type 0 where
  pub words : List ℕ
  pub nodes : List Node
  pub descriptors : List Descriptor
  pub scanners : List Scanner

abbrev pub tables : List ℕ → List Node → List Descriptor → List Scanner → Tables
tables words nodes descriptors scanners = record { words = words; nodes = nodes; descriptors = descriptors; scanners = scanners }

abbrev pub zero_node : Node
zero_node = record { next = 0; parcel = 0 }

abbrev pub zero_swap : Swap
zero_swap = record { address = 0; old = 0; new = 0 }

abbrev pub zero_descriptor : Descriptor
zero_descriptor = record { first = zero_swap; second = zero_swap; result = 0 }

abbrev pub zero_scanner : Scanner
zero_scanner = record { last = 0; heard = 0; wish = None; look = no_look }
