-- The tables after the one write of an access.
use Rattle.std.specs.Prelude.{ℕ, ◌-◌, cond, ◌&&◌, List, length, nat_le, slice_index_or, slice_set, Some, None, Option}
use Rattle.records.specs.declared.entries.Node.{Node}
use Rattle.records.specs.declared.entries.Descriptor.{Descriptor}
use Rattle.records.specs.Tables.{zero_descriptor}
use Rattle.memory.specs.Writes.{words_with, nodes_with}
use Rattle.swap_access.specs.declared.effect.Write.{Write}
use Rattle.swap_access.specs.declared.effect.Write.TheVariants.{Word, Result}

abbrev pub words_after : Option Write → List ℕ → List ℕ
words_after None words = words
words_after (Some (Word a w)) words = words_with words a w
words_after (Some (Result d r)) words = words

-- 4,095 is the highest place that an address can name
abbrev pub nodes_after : Option Write → List Node → List Node
nodes_after None nodes = nodes
nodes_after (Some (Word a w)) nodes = nodes_with nodes 4095 a w
nodes_after (Some (Result d r)) nodes = nodes

abbrev pub with_result : Descriptor → ℕ → Descriptor
with_result x r = record { first = x.first; second = x.second; result = r }

abbrev pub results_with : List Descriptor → ℕ → ℕ → List Descriptor
results_with descriptors d r =
    cond (nat_le 1 d && nat_le d (length descriptors)) (slice_set descriptors (d - 1) (with_result (slice_index_or descriptors (d - 1) zero_descriptor) r)) descriptors

abbrev pub descriptors_after : Option Write → List Descriptor → List Descriptor
descriptors_after None descriptors = descriptors
descriptors_after (Some (Word a w)) descriptors = descriptors
descriptors_after (Some (Result d r)) descriptors = results_with descriptors d r
