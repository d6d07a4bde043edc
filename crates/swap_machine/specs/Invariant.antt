-- The invariant: what the memory obeys, what a scanner knows where it stands, and where a descriptor requires a scanner to stand.
use Rattle.std.specs.Prelude.{◌≡◌, true, false, ◌≢◌, ℕ}
use Rattle.swap_machine.specs.Machine.{Word, plain, descriptor, mark, Outcome, fresh, undecided, failed, won, success, Owner, nobody, scanner, Memory, State, Closed, Ended}
use Rattle.swap_machine.specs.Machine.{Position, idle, at_publish, at_read_result, at_clean, at_place_mark, at_re_read, at_try_fail, at_give_back, at_decide, at_finish_first, at_finish_second, at_write_success, at_withdraw}
use Rattle.swap_machine.specs.Positions.{Deciding, AboutToPlace, HasPlaced, Finishing, FinishingFor}

-- the descriptor is published
abbrev pub Live : Outcome → Type 0
Live fresh = ⊥
Live undecided = Unit {0}
Live failed = Unit {0}
Live (won s) = Unit {0}
Live success = Unit {0}

-- the descriptor may stand at its first address
abbrev pub Installable : Outcome → Type 0
Installable fresh = ⊥
Installable undecided = Unit {0}
Installable failed = Unit {0}
Installable (won s) = Unit {0}
Installable success = ⊥

-- the mark of s decided; of success it is not kept which mark did
abbrev pub WonBy : ℕ → Outcome → Type 0
WonBy s fresh = ⊥
WonBy s undecided = ⊥
WonBy s failed = ⊥
WonBy s (won t) = t ≡ s
WonBy s success = Unit {0}

abbrev pub Succeeded : Outcome → Type 0
Succeeded fresh = ⊥
Succeeded undecided = ⊥
Succeeded failed = ⊥
Succeeded (won t) = ⊥
Succeeded success = Unit {0}

-- somebody has prepared the descriptor
abbrev pub Has : Owner → Type 0
Has nobody = ⊥
Has (scanner s) = Unit {0}

-- The word may be at address a: a descriptor only at its first address, a mark only at the second, and both only once published.
abbrev pub InPlace : Memory → ℕ → Word → Type 0
InPlace m a (plain n) = Unit {0}
InPlace m a (descriptor d) = (a ≡ (m.fields d).p1) × Installable (m.result d)
InPlace m a (mark d s) = (a ≡ (m.fields d).p2) × Live (m.result d)

-- what the memory obeys
pub record Sound (m : Memory) : Type 0 where
  pub in_place : (a : ℕ) → InPlace m a (m.word a)
  -- an undecided descriptor is at its first address
  pub installed : (d : ℕ) → m.result d ≡ undecided → m.word (m.fields d).p1 ≡ descriptor d

-- What scanner s knows where it stands.
abbrev pub Knows : Memory → ℕ → Position → Type 0
Knows m s idle = Unit {0}
-- the descriptor is its own, and nobody else has seen it
Knows m s (at_publish d) = (m.result d ≡ fresh) × (m.owner d ≡ scanner s)
Knows m s (at_read_result d via) = Live (m.result d)
Knows m s (at_clean d via) = Closed (m.result d)
Knows m s (at_place_mark d own) = Live (m.result d)
Knows m s (at_re_read d own) = Live (m.result d)
Knows m s (at_try_fail d own) = Live (m.result d)
Knows m s (at_give_back d own) = Ended false (m.result d)
-- while nothing is decided, the mark that it is about to choose stays at the second address
Knows m s (at_decide d own t placed) = Live (m.result d) × (m.result d ≡ undecided → m.word (m.fields d).p2 ≡ mark d t) × (placed ≡ true → t ≡ s)
-- the mark of t decided, and once another has written success it is gone
Knows m s (at_finish_first d own t) = WonBy t (m.result d) × (Succeeded (m.result d) → m.word (m.fields d).p2 ≢ mark d t)
Knows m s (at_finish_second d own t) = WonBy t (m.result d) × (Succeeded (m.result d) → m.word (m.fields d).p2 ≢ mark d t) × (m.word (m.fields d).p1 ≢ descriptor d)
Knows m s (at_write_success d own t) = WonBy t (m.result d) × (m.word (m.fields d).p2 ≢ mark d t) × (m.word (m.fields d).p1 ≢ descriptor d)
Knows m s (at_withdraw d own ok) = Ended ok (m.result d)

-- What descriptor d, with the given result, requires of scanner s, which stands at c: while nothing is decided, one whose mark is at the second address
-- has just placed it, and the owner is in its own run; once a mark has decided, the one who placed it is there to finish.
abbrev pub Required : Memory → ℕ → Position → ℕ → Outcome → Type 0
Required m s c d fresh = Unit {0}
Required m s c d undecided = (m.word (m.fields d).p2 ≡ mark d s → HasPlaced d c) × (m.owner d ≡ scanner s → Deciding d c)
Required m s c d failed = Unit {0}
Required m s c d (won t) = t ≡ s → Finishing d c
Required m s c d success = Unit {0}

pub record Invariant (σ : State) : Type 0 where
  pub sound : Sound σ.memory
  pub knows : (s : ℕ) → Knows σ.memory s (σ.at s)
  -- nobody writes the new words of d for the mark of one that is about to place it
  pub exclusive : (s t d : ℕ) → AboutToPlace d (σ.at s) → ¬ FinishingFor d s (σ.at t)
  pub required : (s d : ℕ) → Required σ.memory s (σ.at s) d (σ.memory.result d)
  -- a published descriptor has an owner
  pub owned : (d : ℕ) → Live (σ.memory.result d) → Has (σ.memory.owner d)
