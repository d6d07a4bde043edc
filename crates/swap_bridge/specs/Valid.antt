-- What the tables and the positions keep to, beyond what the machine says of them.
use Rattle.std.specs.Prelude.{◌≡◌, ℕ, ◌≤◌, Bool, true, false, length, Some, Ok}
use Rattle.words.specs.Words.{told}
use Rattle.records.specs.declared.entries.Descriptor.{Descriptor as Record}
use Rattle.memory.specs.Seen.{Seen}
use Rattle.memory.specs.Reads.{descriptor_at, word_at}
use Rattle.memory.specs.declared.meaning.Outcome.TheVariants.{Undecided}
use Rattle.memory.specs.Meaning.{plain, outcome_of}
use Rattle.swap_access.specs.Found.{known}
use Rattle.swap_access.specs.declared.position.Met.{Met}
use Rattle.swap_access.specs.declared.position.Met.TheVariants.{Descriptor as by_descriptor, Mark as by_mark}
use Rattle.swap_access.specs.declared.position.Position.{Position}
use Rattle.swap_access.specs.declared.position.Position.TheVariants.{Publish, ReadResult, Clean, PlaceMark, ReRead, TryToFail, GiveBack, Decide, FinishFirst, FinishSecond, WriteSuccess, Withdraw}
use Rattle.swap_machine.specs.Invariant.{Live}
use Rattle.swap_bridge.specs.Systems.{Standing, resting, working, System}
use Rattle.swap_bridge.specs.Abstraction.{record_at, result_at}

-- an address of the tables: a tray word, or the next word of a taken node
abbrev pub Address : Seen → ℕ → Type 0
Address m a = (w : ℕ) × (word_at m a ≡ Ok w)

-- nil or a taken node
abbrev pub Plain : Seen → ℕ → Type 0
Plain m w = plain m w ≡ Ok w

-- a two-word swap of such words at two addresses of the tables
pub record Task (m : Seen) (x : Record) : Type 0 where
  pub first_address : Address m x.first.address
  pub first_old : Plain m x.first.old
  pub first_new : Plain m x.first.new
  pub second_address : Address m x.second.address
  pub second_old : Plain m x.second.old
  pub second_new : Plain m x.second.new

-- descriptor d is taken, and its record is such a swap
pub record Proper (m : Seen) (d : ℕ) : Type 0 where
  pub taken : descriptor_at m d ≡ Ok (record_at m d)
  pub task : Task m (record_at m d)

abbrev pub MetFits : Met → Type 0
MetFits by_descriptor = Unit {0}
MetFits (by_mark s) = s ≤ 15

-- which positions an own run and a help have, and which marks they name
abbrev pub Fits : Bool → Position → Type 0
Fits own (Publish d) = own ≡ true
Fits own (ReadResult d met) = (own ≡ false) × MetFits met
Fits own (Clean d met) = (own ≡ false) × MetFits met
Fits own (PlaceMark d) = Unit {0}
Fits own (ReRead d) = Unit {0}
Fits own (TryToFail d) = Unit {0}
Fits own (GiveBack d) = Unit {0}
Fits own (Decide d t placed) = t ≤ 15
Fits own (FinishFirst d t) = t ≤ 15
Fits own (FinishSecond d t) = t ≤ 15
Fits own (WriteSuccess d t) = t ≤ 15
Fits own (Withdraw d ok) = Unit {0}

-- a scanner that is about to publish d has prepared it
abbrev pub Prepared : Seen → Position → Type 0
Prepared m (Publish d) = Proper m d × (outcome_of d (record_at m d).result ≡ Some Undecided)
Prepared m (ReadResult d met) = Unit {0}
Prepared m (Clean d met) = Unit {0}
Prepared m (PlaceMark d) = Unit {0}
Prepared m (ReRead d) = Unit {0}
Prepared m (TryToFail d) = Unit {0}
Prepared m (GiveBack d) = Unit {0}
Prepared m (Decide d t placed) = Unit {0}
Prepared m (FinishFirst d t) = Unit {0}
Prepared m (FinishSecond d t) = Unit {0}
Prepared m (WriteSuccess d t) = Unit {0}
Prepared m (Withdraw d ok) = Unit {0}

-- what holds of scanner s where it stands
abbrev pub Stands : Seen → ℕ → Standing → Type 0
Stands m s resting = Unit {0}
Stands m s (working own p) = (s ≤ 15) × Fits own p × Prepared m p

-- no place beyond those that a word can name
pub record Rooms (m : Seen) : Type 0 where
  pub nodes : length m.nodes ≤ 4095
  pub descriptors : length m.descriptors ≤ 4095

pub record Valid (σ : System) : Type 0 where
  pub rooms : Rooms σ.tables
  -- every word of the tables is of a valid form and names a taken place
  pub words : (a w : ℕ) → word_at σ.tables a ≡ Ok w → known σ.tables w (told w) ≡ Ok w
  -- every published descriptor is proper
  pub live : (d : ℕ) → Live (result_at σ.tables σ.published d) → Proper σ.tables d
  pub stands : (s : ℕ) → Stands σ.tables s (σ.standing s)
