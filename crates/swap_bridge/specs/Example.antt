-- A run of the system: scanner 0 swaps tray word 0 from nil to node 1 and tray word 1 from nil to node 2. The theorem is not about nothing.
use Rattle.memory.specs.Seen.{seen}
use Rattle.std.specs.Prelude.{◌≡◌, true, false, List, [], ◌∷◌}
use Rattle.records.specs.declared.entries.Descriptor.{Descriptor as Record}
use Rattle.records.specs.Tables.{zero_node, zero_descriptor}
use Rattle.swap_machine.specs.Machine.{nobody, Event, answers}
use Rattle.swap_bridge.specs.Systems.{resting, System}
use Rattle.swap_bridge.specs.Does.{Runs}
use Rattle.swap_bridge.specs.Theorems.{Begins}

-- two tray words, two taken nodes, and room for one descriptor
abbrev pub beginning : System
beginning =
    record {
      tables = seen (0 ∷ (0 ∷ [])) (zero_node ∷ (zero_node ∷ [])) 2 (zero_descriptor ∷ []) 0;
      standing = λ s. resting;
      owner = λ d. nobody;
      published = λ d. false;
    }

abbrev pub task : Record
task = record { first = record { address = 0; old = 0; new = 1 }; second = record { address = 1; old = 0; new = 2 }; result = 1 }

-- some run ends with success, and the tray words are the new ones
abbrev pub Swaps : Type 0
Swaps = (h : List Event) × (τ : System) × Begins beginning × Runs beginning (answers 1 true ∷ h) τ × (τ.tables.words ≡ (1 ∷ (2 ∷ [])))
