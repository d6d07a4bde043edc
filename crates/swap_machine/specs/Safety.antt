-- What the machine keeps to, in the words of its user: what holds of each step, and of each run.
use Rattle.std.specs.Prelude.{◌≡◌, Bool, true, false, cond, ◌≢◌, ◌⊎◌, List, [], ◌∷◌, ℕ, ◌+◌, eqb}
use Rattle.swap_machine.specs.Machine.{plain, descriptor, mark, Outcome, fresh, undecided, failed, won, success, scanner, Memory, Position, idle, at_publish, Event, silent, swapped, decided, first_failed, answers, State, Act, Step, Closed, Ended}
use Rattle.swap_machine.specs.Meaning.{taken, Says}
use Rattle.swap_machine.specs.Positions.{Of, Own, Helping, Deciding}
use Rattle.swap_machine.specs.Invariant.{Live, Invariant}

-- How the result of d may go in a step with event e: to undecided, and from there to failed, or by a decision to won and then to success.
pub data Later (e : Event) (d : ℕ) : Outcome → Outcome → Type 0 where
  same : {r : Outcome} → Later e d r r
  publishes : Later e d fresh undecided
  fails : Later e d undecided failed
  wins : {s : ℕ} → e ≡ decided d → Later e d undecided (won s)
  finishes : {s : ℕ} → Later e d (won s) success

-- every word is plain, every result fresh, and nobody is at work
pub record Initial (σ : State) : Type 0 where
  pub plain_words : (a : ℕ) → (n : ℕ) × (σ.memory.word a ≡ plain n)
  pub all_fresh : (d : ℕ) → σ.memory.result d ≡ fresh
  pub all_idle : (s : ℕ) → σ.at s ≡ idle

-- A run from σ, with its events, the last first.
pub data Run (σ : State) : List Event → State → Type 0 where
  begin : Run σ [] σ
  then : {h : List Event} {τ υ : State} {e : Event} → Run σ h τ → Step τ e υ → Run σ (e ∷ h) υ

-- 1 if the event is a decision of d, else 0
abbrev pub is_decision : ℕ → Event → ℕ
is_decision d silent = 0
is_decision d (swapped a x y) = 0
is_decision d (decided f) = cond (eqb f d) 1 0
is_decision d (first_failed f) = 0
is_decision d (answers f ok) = 0

-- how often d was decided
abbrev pub decisions : ℕ → List Event → ℕ
decisions d [] = 0
decisions d (e ∷ h) = is_decision d e + decisions d h

-- the fields and the owner of d are as before
abbrev pub Untouched : Memory → Memory → ℕ → Type 0
Untouched m m' d = (m'.fields d ≡ m.fields d) × (m'.owner d ≡ m.owner d)

-- scanner s, which was idle, prepares a swap by d, which was not published
abbrev pub Prepares : ℕ → Memory → Position → Memory → Position → ℕ → Type 0
Prepares s m c m' c' d = (c ≡ idle) × (c' ≡ at_publish d) × (m.result d ≡ fresh) × (m'.owner d ≡ scanner s)

-- What holds of each step of the machine.
pub record Good (σ : State) (e : Event) (τ : State) : Type 0 where
  -- what each address stands for changes as the event says
  pub says : Says e σ.memory τ.memory
  -- results go only forward, and a decision is an event
  pub later : (d : ℕ) → Later e d (σ.memory.result d) (τ.memory.result d)
  pub not_taken : (d : ℕ) → e ≢ decided d → taken (τ.memory.result d) ≡ taken (σ.memory.result d)
  -- the fields of a published descriptor never change
  pub same_fields : (d : ℕ) → Live (σ.memory.result d) → τ.memory.fields d ≡ σ.memory.fields d

-- What holds of each step of scanner s from position c to c'.
pub record Orderly (s : ℕ) (m : Memory) (c : Position) (e : Event) (m' : Memory) (c' : Position) : Type 0 where
  -- an own run stays the same own run or ends, and a help stays a help or ends
  pub own_on : (d : ℕ) → Own d c → c' ≢ idle → Own d c'
  pub helping_on : c ≢ idle → Helping c → Helping c'
  -- only a plain swap, outside any run, has the event of one
  pub no_swap : (a x y : ℕ) → e ≡ swapped a x y → (c ≡ idle) × (c' ≡ idle)
  -- an own run ends with a first failure, or with an answer that the result confirms
  pub own_ends : (d : ℕ) → Own d c → c' ≡ idle → (e ≡ first_failed d) ⊎ ((ok : Bool) × (e ≡ answers d ok) × Ended ok (m'.result d))
  -- a first failure comes only from the owner's first swap, and nothing was written
  pub nothing_written : (d : ℕ) → e ≡ first_failed d → (c ≡ at_publish d) × (c' ≡ idle) × (m' ≡ m) × (m.result d ≡ fresh)
  -- an answer ends a run or a help of its descriptor, and the result confirms it
  pub answer_ends : (d : ℕ) (ok : Bool) → e ≡ answers d ok → Of d c × (c' ≡ idle) × Ended ok (m'.result d)
  -- only its owner publishes a descriptor
  pub live_before : (d : ℕ) → Live (m'.result d) → Live (m.result d) ⊎ ((m.owner d ≡ scanner s) × (c ≡ at_publish d))
  -- fields and owner of a descriptor change only where that descriptor is prepared
  pub prepared : (d : ℕ) → Untouched m m' d ⊎ Prepares s m c m' c' d

-- Nobody has met descriptor d: no word names it, and who is at work on it is its owner, about to publish it.
pub record Unmet (σ : State) (d : ℕ) : Type 0 where
  pub no_descriptor : (a : ℕ) → σ.memory.word a ≢ descriptor d
  pub no_mark : (a s : ℕ) → σ.memory.word a ≢ mark d s
  pub only_owner : (s : ℕ) → Of d (σ.at s) → (σ.at s ≡ at_publish d) × (σ.memory.owner d ≡ scanner s)

-- The swap of d has taken place: d was decided exactly once in the events h that led to the answer, and is not decided again after state τ.
pub record SwappedOnce (h : List Event) (τ : State) (d : ℕ) : Type 0 where
  pub result : τ.memory.result d ≡ success
  pub before : decisions d h ≡ 1
  pub after : (g : List Event) (υ : State) → Run τ g υ → decisions d g ≡ 0

-- It has not, and never will.
pub record NeverSwapped (h : List Event) (τ : State) (d : ℕ) : Type 0 where
  pub result : τ.memory.result d ≡ failed
  pub before : decisions d h ≡ 0
  pub after : (g : List Event) (υ : State) → Run τ g υ → decisions d g ≡ 0

-- It has not, nobody has met d, and nobody is at work on it: its owner may prepare it again.
pub record NotBegun (h : List Event) (τ : State) (d : ℕ) : Type 0 where
  pub result : τ.memory.result d ≡ fresh
  pub before : decisions d h ≡ 0
  pub unmet : Unmet τ d
  pub nobody_at_work : (s : ℕ) → ¬ Of d (τ.at s)

-- The theorem.
pub record Safe : Type 0 where
  -- the invariant holds at the start, every step keeps it, and so it holds in every state that is reached
  pub starts : (σ : State) → Initial σ → Invariant σ
  pub keeps : (σ τ : State) (e : Event) → Invariant σ → Step σ e τ → Invariant τ
  pub holds : (σ : State) (h : List Event) (τ : State) → Invariant σ → Run σ h τ → Invariant τ
  -- each step
  pub good : (σ τ : State) (e : Event) → Invariant σ → Step σ e τ → Good σ e τ
  pub orderly : (σ : State) (s : ℕ) (e : Event) (m : Memory) (c : Position) → Invariant σ → Act s σ.memory (σ.at s) e m c → Orderly s σ.memory (σ.at s) e m c
  -- within a swap a scanner can always go on
  pub goes_on : (σ : State) → Invariant σ → (s : ℕ) → σ.at s ≢ idle → (e : Event) × (m : Memory) × (c : Position) × Act s σ.memory (σ.at s) e m c
  -- a descriptor is decided at most once: where its result is won or success, and nowhere else
  pub once : (σ : State) (h : List Event) (τ : State) → Initial σ → Run σ h τ → (d : ℕ) → decisions d h ≡ taken (τ.memory.result d)
  -- a final result stays, and from there on no step of any run decides the descriptor
  pub final : (σ : State) (h : List Event) (τ : State) → Invariant σ → Run σ h τ → (d : ℕ) → Closed (σ.memory.result d) → (τ.memory.result d ≡ σ.memory.result d) × (decisions d h ≡ 0)
  -- an undecided descriptor has an owner, which is in its own run and has not yet seen a result
  pub owner_at_work : (σ : State) → Invariant σ → (d : ℕ) → σ.memory.result d ≡ undecided → (s : ℕ) × (σ.memory.owner d ≡ scanner s) × Deciding d (σ.at s)
  -- a descriptor that is not published has been met by nobody
  pub unmet : (σ : State) → Invariant σ → (d : ℕ) → σ.memory.result d ≡ fresh → Unmet σ d
  -- what the three answers mean: success, the second word failed, the first word failed
  pub succeeds : (σ : State) (h : List Event) (τ υ : State) → Initial σ → Run σ h τ → (d : ℕ) → Step τ (answers d true) υ → SwappedOnce h υ d
  pub second_fails : (σ : State) (h : List Event) (τ υ : State) → Initial σ → Run σ h τ → (d : ℕ) → Step τ (answers d false) υ → NeverSwapped h υ d
  pub first_fails : (σ : State) (h : List Event) (τ υ : State) → Initial σ → Run σ h τ → (d : ℕ) → Step τ (first_failed d) υ → NotBegun h υ d
