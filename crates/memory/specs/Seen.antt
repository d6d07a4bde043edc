-- The shared words by their lists and counts.
use Rattle.std.specs.Prelude.{ℕ, List}
use Rattle.records.specs.declared.entries.Node.{Node}
use Rattle.records.specs.declared.entries.Descriptor.{Descriptor}

pub record Seen : Type 0 where
  pub words : List ℕ
  pub nodes : List Node
  pub nodes_taken : ℕ
  pub descriptors : List Descriptor
  pub descriptors_taken : ℕ

abbrev pub seen : List ℕ → List Node → ℕ → List Descriptor → ℕ → Seen
seen words nodes nodes_taken descriptors descriptors_taken =
    record { words = words; nodes = nodes; nodes_taken = nodes_taken; descriptors = descriptors; descriptors_taken = descriptors_taken }
