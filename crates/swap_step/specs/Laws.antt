-- A step writes at most one word or one result, and changes nothing else.
use Rattle.std.specs.Prelude.{◌≡◌, ℕ, ◌-◌, ◌≤◌, List, get_or, Ok, Err, Result, ◌≢◌, slice_index_or, Some, None, Option}
use Rattle.refusals.specs.declared.refusal.Refusal.{Refusal}
use Rattle.records.specs.declared.entries.Node.{Node}
use Rattle.records.specs.declared.entries.Descriptor.{Descriptor}
use Rattle.records.specs.Tables.{zero_node, zero_descriptor}
use Rattle.memory.specs.Reads.{word_at}
use Rattle.memory.specs.Writes.{shared}
use Rattle.memory.specs.declared.memory_mut.MemoryMut.{MemoryMut}
use Rattle.swap_access.specs.declared.effect.Write.{Write}
use Rattle.swap_access.specs.declared.effect.Write.TheVariants.{Word, Result as ResultOf}

-- what the tables hold
pub record Held : Type 0 where
  pub words : List ℕ
  pub nodes : List Node
  pub descriptors : List Descriptor

abbrev pub held : List ℕ → List Node → List Descriptor → Held
held words nodes descriptors = record { words = words; nodes = nodes; descriptors = descriptors }

abbrev pub held_by : MemoryMut → Held
held_by m = held m.words.now m.nodes.now m.descriptors.now

-- the word at an address, of a node that is taken or not
abbrev pub word_of : Held → ℕ → Result ℕ Refusal
word_of h a = word_at (shared h.words h.nodes 4095) a

abbrev pub descriptor_of : Held → ℕ → Descriptor
descriptor_of h d = slice_index_or h.descriptors (d - 1) zero_descriptor

-- nothing but the word at one address differs
pub record OnlyWord (before after : Held) (address : ℕ) : Type 0 where
  pub there : (a : ℕ) → (a ≢ address) → word_of after a ≡ word_of before a
  pub parcels : (n : ℕ) → (get_or after.nodes n zero_node).parcel ≡ (get_or before.nodes n zero_node).parcel
  pub descriptors : after.descriptors ≡ before.descriptors

-- nothing but the result of one descriptor differs
pub record OnlyResult (before after : Held) (place : ℕ) : Type 0 where
  pub there : (d : ℕ) → 1 ≤ d → (d ≢ place) → descriptor_of after d ≡ descriptor_of before d
  pub firsts : (d : ℕ) → (descriptor_of after d).first ≡ (descriptor_of before d).first
  pub seconds : (d : ℕ) → (descriptor_of after d).second ≡ (descriptor_of before d).second
  pub words : after.words ≡ before.words
  pub nodes : after.nodes ≡ before.nodes

-- what a write may change
abbrev pub Only : Option Write → Held → Held → Type 0
Only None before after = after ≡ before
Only (Some (Word a w)) before after = OnlyWord before after a
Only (Some (ResultOf d r)) before after = OnlyResult before after d

-- one access: nothing, one word or one result has changed
pub record OneAccess (before after : Held) : Type 0 where
  pub write : Option Write
  pub rest : Only write before after

-- a refusal leaves every table as found
abbrev pub RefusedUnchanged : {A : Type 0} → Result A Refusal → Held → Held → Type 0
RefusedUnchanged (Ok _) before after = Unit {0}
RefusedUnchanged (Err _) before after = after ≡ before
