-- What a step reads of the tables. A place that is not taken holds nothing: whoever names it is torn.
use Rattle.std.specs.Prelude.{ℕ, ◌-◌, cond, length, Some, None, Ok, Err, Option, Result, nat_lt, slice_index, slice_index_or}
pub use Rattle.refusals.specs.Answered.{on_ok}
use Rattle.refusals.specs.declared.refusal.Refusal.{Refusal}
use Rattle.refusals.specs.declared.refusal.Refusal.TheVariants.{Torn}
use Rattle.records.specs.declared.entries.Node.{Node}
use Rattle.records.specs.declared.entries.Descriptor.{Descriptor}
use Rattle.memory.specs.declared.address.Address.{Address}
use Rattle.memory.specs.declared.address.Address.TheVariants.{TrayWord, NextWord}
use Rattle.memory.specs.Addresses.{addressed}
pub use Rattle.memory.specs.Places.{is_taken}
pub use Rattle.memory.specs.Seen.{Seen}
use Rattle.records.specs.Tables.{zero_node, zero_descriptor}

-- the entry at a place (`entry_at`), torn where there is none; spelled out, since the machine's bridge compares these by their tests
abbrev pub node_at : Seen → ℕ → Result Node Refusal
node_at m n = cond (is_taken (length m.nodes) m.nodes_taken n) (Ok (slice_index_or m.nodes (n - 1) zero_node)) (Err Torn)

abbrev pub descriptor_at : Seen → ℕ → Result Descriptor Refusal
descriptor_at m d = cond (is_taken (length m.descriptors) m.descriptors_taken d) (Ok (slice_index_or m.descriptors (d - 1) zero_descriptor)) (Err Torn)

-- the word at an address
abbrev pub word_in : Seen → Option Address → Result ℕ Refusal
word_in m None = Err Torn
word_in m (Some (TrayWord i)) = cond (nat_lt i (length m.words)) (Ok (slice_index m.words i)) (Err Torn)
word_in m (Some (NextWord n)) = on_ok (node_at m n) (λ x. Ok x.next)

abbrev pub word_at : Seen → ℕ → Result ℕ Refusal
word_at m a = word_in m (addressed a)
