-- A write of one word.
use Rattle.std.specs.Prelude.{◌≡◌, ℕ, ◌-◌, cond, List, [], length, get_or, Some, None, Ok, Err, Option, Result, ◌≢◌, nat_lt, slice_index_or, slice_set}
use Rattle.refusals.specs.declared.refusal.Refusal.{Refusal}
use Rattle.refusals.specs.declared.refusal.Refusal.TheVariants.{Torn}
use Rattle.records.specs.declared.entries.Node.{Node}
use Rattle.records.specs.Tables.{zero_node}
use Rattle.memory.specs.declared.address.Address.{Address}
use Rattle.memory.specs.declared.address.Address.TheVariants.{TrayWord, NextWord}
use Rattle.memory.specs.Addresses.{addressed}
use Rattle.memory.specs.Places.{is_taken}
use Rattle.memory.specs.Reads.{word_at}
use Rattle.memory.specs.Seen.{Seen}

abbrev pub written_at : List ℕ → List Node → ℕ → Option Address → Result (Unit {0}) Refusal
written_at words nodes taken None = Err Torn
written_at words nodes taken (Some (TrayWord i)) = cond (nat_lt i (length words)) (Ok tt) (Err Torn)
written_at words nodes taken (Some (NextWord n)) = cond (is_taken (length nodes) taken n) (Ok tt) (Err Torn)

-- whether an address can be written
abbrev pub writes : List ℕ → List Node → ℕ → ℕ → Result (Unit {0}) Refusal
writes words nodes taken address = written_at words nodes taken (addressed address)

abbrev pub tray_word : List ℕ → Option Address → ℕ → List ℕ
tray_word words None w = words
tray_word words (Some (TrayWord i)) w = cond (nat_lt i (length words)) (slice_set words i w) words
tray_word words (Some (NextWord n)) w = words

-- the tray words afterwards
abbrev pub words_with : List ℕ → ℕ → ℕ → List ℕ
words_with words address w = tray_word words (addressed address) w

abbrev pub led_on : Node → ℕ → Node
led_on x w = record { next = w; parcel = x.parcel }

abbrev pub next_word : List Node → ℕ → Option Address → ℕ → List Node
next_word nodes taken None w = nodes
next_word nodes taken (Some (TrayWord i)) w = nodes
next_word nodes taken (Some (NextWord n)) w = cond (is_taken (length nodes) taken n) (slice_set nodes (n - 1) (led_on (slice_index_or nodes (n - 1) zero_node) w)) nodes

-- the nodes afterwards
abbrev pub nodes_with : List Node → ℕ → ℕ → ℕ → List Node
nodes_with nodes taken address w = next_word nodes taken (addressed address) w

-- the words of the tables, without the descriptors, on which no word depends
abbrev pub shared : List ℕ → List Node → ℕ → Seen
shared words nodes taken = record { words = words; nodes = nodes; nodes_taken = taken; descriptors = []; descriptors_taken = 0 }

-- One word was written: it stands at its address, every other address has its word still, and no parcel has changed.
pub record Wrote (before after : Seen) (address word : ℕ) : Type 0 where
  pub here : word_at after address ≡ Ok word
  pub there : (a : ℕ) → (a ≢ address) → word_at after a ≡ word_at before a
  pub parcels : (n : ℕ) → (get_or after.nodes n zero_node).parcel ≡ (get_or before.nodes n zero_node).parcel

abbrev pub Written : Seen → Seen → ℕ → ℕ → Result (Unit {0}) Refusal → Type 0
Written before after address word (Ok _) = Wrote before after address word
Written before after address word (Err _) = (word_at before address ≡ Err Torn) × (after ≡ before)
