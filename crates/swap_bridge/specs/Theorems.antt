-- The theorems.
use Rattle.std.specs.Prelude.{◌≡◌, ℕ, Bool, true, false, List, Some, Ok}
use Rattle.memory.specs.Seen.{Seen}
use Rattle.memory.specs.Reads.{word_at}
use Rattle.memory.specs.declared.meaning.Outcome.TheVariants.{Undecided}
use Rattle.memory.specs.Meaning.{outcome_of, stands_for as code_stands_for}
use Rattle.swap_access.specs.declared.effect.Effect.{Effect}
use Rattle.swap_access.specs.declared.position.Position.{Position}
use Rattle.swap.specs.Dispatch.{decided as decided_by_code}
use Rattle.swap_step.specs.Steps.{written, stepped, left}
use Rattle.swap_machine.specs.Machine.{descriptor, fresh, Event, first_failed, answers, Step}
use Rattle.swap_machine.specs.Meaning.{stands_for}
use Rattle.swap_machine.specs.Invariant.{Invariant}
use Rattle.swap_machine.specs.Safety.{Initial, Run, Good, SwappedOnce, NeverSwapped, NotBegun}
use Rattle.swap_bridge.specs.Systems.{resting, working, System}
use Rattle.swap_bridge.specs.Abstraction.{word_of, record_at, result_at, abstracted}
use Rattle.swap_bridge.specs.Valid.{Plain, Rooms, Valid}
use Rattle.swap_bridge.specs.Does.{Does, Runs}

-- Each step of the code is a step of the machine. Before it the system has to be valid, and the machine's invariant has to hold of its state.
pub record CodeIsTheMachine : Type 0 where
  -- an access that the code finds is what a step of the code answers, and what it leaves of the tables
  pub is_the_step : (m : Seen) (s : ℕ) (p : Position) (f : Effect) → decided_by_code m s p ≡ Ok f → (stepped m s p ≡ Ok f.next) × (left m s p ≡ written f.write m)
  -- no step of the code is refused
  pub never_torn : (σ : System) → Valid σ → Invariant (abstracted σ) → (s : ℕ) (own : Bool) (p : Position) → σ.standing s ≡ working own p → (f : Effect) × (decided_by_code σ.tables s p ≡ Ok f)
  -- what the system does is a step of the machine, and leaves the system valid
  pub simulates : (σ τ : System) (e : Event) → Valid σ → Invariant (abstracted σ) → Does σ e τ → Step (abstracted σ) e (abstracted τ) × Valid τ
  -- what a word of the tables stands for, to the code, is what its address stands for in the machine
  pub stands_for_the_same : (σ : System) → Valid σ → Invariant (abstracted σ) → (a w : ℕ) → word_at σ.tables a ≡ Ok w → code_stands_for σ.tables w ≡ Ok (stands_for (abstracted σ).memory a)
  -- of an undecided descriptor the tables tell whether it is published: it stands at its first address
  pub published_is_seen : (σ : System) → Valid σ → Invariant (abstracted σ) → (d : ℕ) → outcome_of d (record_at σ.tables d).result ≡ Some Undecided → (σ.published d ≡ true → word_of σ.tables (record_at σ.tables d).first.address ≡ descriptor d) × (word_of σ.tables (record_at σ.tables d).first.address ≡ descriptor d → σ.published d ≡ true)

-- every word is nil or a taken node, no descriptor is published, and nobody is at work
pub record Begins (σ : System) : Type 0 where
  pub rooms : Rooms σ.tables
  pub plain_words : (a w : ℕ) → word_at σ.tables a ≡ Ok w → Plain σ.tables w
  pub all_fresh : (d : ℕ) → result_at σ.tables σ.published d ≡ fresh
  pub all_resting : (s : ℕ) → σ.standing s ≡ resting

-- Every run of the system from such a beginning is a run of the machine, so that all that is known of the machine's runs holds of it.
pub record SystemIsSafe : Type 0 where
  pub initial : (σ : System) → Begins σ → Initial (abstracted σ)
  pub holds : (σ : System) (h : List Event) (τ : System) → Begins σ → Runs σ h τ → Valid τ × Invariant (abstracted τ) × Run (abstracted σ) h (abstracted τ)
  -- what each step says of the words, the results and the descriptors
  pub good : (σ : System) (h : List Event) (τ : System) → Begins σ → Runs σ h τ → (υ : System) (e : Event) → Does τ e υ → Good (abstracted τ) e (abstracted υ)
  -- the code refuses no step
  pub never_torn : (σ : System) (h : List Event) (τ : System) → Begins σ → Runs σ h τ → (s : ℕ) (own : Bool) (p : Position) → τ.standing s ≡ working own p → (f : Effect) × (decided_by_code τ.tables s p ≡ Ok f)
  -- what the three answers mean: success, the second word failed, the first word failed
  pub succeeds : (σ : System) (h : List Event) (τ υ : System) → Begins σ → Runs σ h τ → (d : ℕ) → Does τ (answers d true) υ → SwappedOnce h (abstracted υ) d
  pub second_fails : (σ : System) (h : List Event) (τ υ : System) → Begins σ → Runs σ h τ → (d : ℕ) → Does τ (answers d false) υ → NeverSwapped h (abstracted υ) d
  pub first_fails : (σ : System) (h : List Event) (τ υ : System) → Begins σ → Runs σ h τ → (d : ℕ) → Does τ (first_failed d) υ → NotBegun h (abstracted υ) d
