-- A place of the node table or of the descriptor table, taken by a board and set to zero.
use Rattle.std.specs.Prelude.{ℕ, List, Result}
use Rattle.refusals.specs.declared.refusal.Refusal.{Refusal}
use Rattle.refusals.specs.declared.refusal.Refusal.TheVariants.{NodesFull, DescriptorsFull}
use Rattle.records.specs.declared.entries.Descriptor.{Descriptor}
use Rattle.records.specs.declared.entries.Node.{Node}
use Rattle.records.specs.Tables.{zero_node, zero_descriptor}
use Rattle.places.specs.Places.{table_after}
use Rattle.board.specs.Rooms.{with_place, takes}
use Rattle.board.specs.Numbers.{Numbers}

abbrev pub takes_node : Numbers → Result ℕ Refusal
takes_node n = takes n.nodes NodesFull

abbrev pub with_nodes_taken : Numbers → ℕ → Numbers
with_nodes_taken n taken = record n { nodes = record n.nodes { taken = taken } }

abbrev pub numbers_with_node : Numbers → Numbers
numbers_with_node n = record n { nodes = with_place n.nodes }

abbrev pub nodes_with_node : Numbers → List Node → List Node
nodes_with_node n nodes = table_after nodes n.nodes.taken zero_node

abbrev pub takes_descriptor : Numbers → Result ℕ Refusal
takes_descriptor n = takes n.descriptors DescriptorsFull

abbrev pub numbers_with_descriptor : Numbers → Numbers
numbers_with_descriptor n = record n { descriptors = with_place n.descriptors }

abbrev pub descriptors_with_descriptor : Numbers → List Descriptor → List Descriptor
descriptors_with_descriptor n descriptors = table_after descriptors n.descriptors.taken zero_descriptor
