-- The two-word compare-and-swap with helping as an abstract machine: a shared memory, scanners that stand at positions, and their single steps.
-- Addresses, descriptors and scanners are any numbers, and any number of scanners is at work.
-- A swap by descriptor d is to turn the word at p1 from o1 to n1 and the word at p2 from o2 to n2, both at once or neither.
-- Its course: the owner publishes d at p1; the owner or a helper places a mark of d at p2; the first to write a mark into d's result decides the swap;
-- then n1 and n2 replace d and that mark. Where p2 does not hold o2 the swap fails, and o1 replaces d.
use Rattle.std.specs.Prelude.{◌≡◌, Bool, true, false, ◌≢◌, ℕ}
use Rattle.swap_machine.specs.Update.{update}

-- What an address holds: a plain word, a descriptor, or the mark of descriptor d that scanner s placed, `mark d s`.
pub data Word : Type 0 where
  plain : ℕ → Word
  descriptor : ℕ → Word
  mark : ℕ → ℕ → Word

-- The result of a descriptor: not yet published; published and undecided; failed at its second word; decided by the mark of scanner s, `won s`;
-- success, once both new words are written. A program may write the same number for `fresh` and `undecided`.
pub data Outcome : Type 0 where
  fresh : Outcome
  undecided : Outcome
  failed : Outcome
  won : ℕ → Outcome
  success : Outcome

-- What a descriptor is to do: first address, its old and new word; second address, its old and new word.
pub record Fields : Type 0 where
  pub p1 : ℕ
  pub o1 : ℕ
  pub n1 : ℕ
  pub p2 : ℕ
  pub o2 : ℕ
  pub n2 : ℕ

-- who prepared a descriptor
pub data Owner : Type 0 where
  nobody : Owner
  scanner : ℕ → Owner

pub record Memory : Type 0 where
  pub word : ℕ → Word
  pub result : ℕ → Outcome
  pub fields : ℕ → Fields
  pub owner : ℕ → Owner

-- what a helper met: the descriptor, or the mark that a scanner placed
pub data Via : Type 0 where
  via_descriptor : Via
  via_mark : ℕ → Via

-- Where a scanner stands: what it does next. A number first is the descriptor; `own` is true in the owner's own run and false in a help.
pub data Position : Type 0 where
  idle : Position
  -- the owner's first swap, p1: o1 → d
  at_publish : (d : ℕ) → Position
  -- a helper reads the result
  at_read_result : (d : ℕ) (via : Via) → Position
  -- a helper removes what it met, since the swap is over
  at_clean : (d : ℕ) (via : Via) → Position
  -- the second swap, p2: o2 → the scanner's mark
  at_place_mark : (d : ℕ) (own : Bool) → Position
  -- that swap failed: is there a mark of d at p2?
  at_re_read : (d : ℕ) (own : Bool) → Position
  -- there is none: result: undecided → failed
  at_try_fail : (d : ℕ) (own : Bool) → Position
  -- the swap failed, p1: d → o1
  at_give_back : (d : ℕ) (own : Bool) → Position
  -- result: undecided → the mark of s; `placed`: the scanner placed that mark itself
  at_decide : (d : ℕ) (own : Bool) (s : ℕ) (placed : Bool) → Position
  -- the mark of s decided: p1: d → n1
  at_finish_first : (d : ℕ) (own : Bool) (s : ℕ) → Position
  -- p2: the mark of s → n2
  at_finish_second : (d : ℕ) (own : Bool) (s : ℕ) → Position
  -- result: success
  at_write_success : (d : ℕ) (own : Bool) (s : ℕ) → Position
  -- the swap was over before the scanner's own mark could decide: p2: that mark → o2; `ok`: it found success
  at_withdraw : (d : ℕ) (own : Bool) (ok : Bool) → Position

-- What a user of the memory learns of a step.
pub data Event : Type 0 where
  silent : Event
  -- a plain compare-and-swap of address a from x to y, `swapped a x y`
  swapped : ℕ → ℕ → ℕ → Event
  -- descriptor d is decided: here both its words change
  decided : ℕ → Event
  -- the owner could not publish d
  first_failed : ℕ → Event
  -- an own run or a help of d ended; true: success, false: the second word was not the old one
  answers : ℕ → Bool → Event

-- the result is final
abbrev pub Closed : Outcome → Type 0
Closed fresh = ⊥
Closed undecided = ⊥
Closed failed = Unit {0}
Closed (won s) = ⊥
Closed success = Unit {0}

-- the result is final, and ok says whether it is success
abbrev pub Ended : Bool → Outcome → Type 0
Ended ok fresh = ⊥
Ended ok undecided = ⊥
Ended ok failed = ok ≡ false
Ended ok (won s) = ⊥
Ended ok success = ok ≡ true

-- a scanner may prepare a descriptor that is nobody's or its own
abbrev pub Takes : ℕ → Owner → Type 0
Takes s nobody = Unit {0}
Takes s (scanner t) = t ≡ s

-- The writes. Word w to address a:
abbrev pub write : Memory → ℕ → Word → Memory
write m a w = record { word = update m.word a w; result = m.result; fields = m.fields; owner = m.owner }

-- result r to descriptor d:
abbrev pub set_result : Memory → ℕ → Outcome → Memory
set_result m d r = record { word = m.word; result = update m.result d r; fields = m.fields; owner = m.owner }

-- scanner s fills in the fields of descriptor d, which nobody else can reach:
abbrev pub prepare : Memory → ℕ → ℕ → Fields → Memory
prepare m s d o = record { word = m.word; result = m.result; fields = update m.fields d o; owner = update m.owner d (scanner s) }

-- descriptor d to its first address; its result is undecided from then on:
abbrev pub publish : Memory → ℕ → Memory
publish m d =
    record { word = update m.word (m.fields d).p1 (descriptor d); result = update m.result d undecided; fields = m.fields; owner = m.owner }

-- A compare-and-swap of address p whose finding is not looked at.
pub data Cas (m : Memory) (p : ℕ) (old new : Word) : Memory → Type 0 where
  hit : m.word p ≡ old → Cas m p old new (write m p new)
  miss : m.word p ≢ old → Cas m p old new m

-- One step of scanner s in memory m: from where it stands, what is learnt of it, the memory after, where it stands then.
pub data Act (s : ℕ) (m : Memory) : Position → Event → Memory → Position → Type 0 where
  -- outside a swap: a plain compare-and-swap that hits, the preparing of a swap, and meeting the swap of another
  swap : (a x y : ℕ) → m.word a ≡ plain x → Act s m idle (swapped a x y) (write m a (plain y)) idle
  start : (d : ℕ) (o : Fields) → m.result d ≡ fresh → Takes s (m.owner d) → Act s m idle silent (prepare m s d o) (at_publish d)
  meet_descriptor : (a d : ℕ) → m.word a ≡ descriptor d → Act s m idle silent m (at_read_result d via_descriptor)
  meet_mark : (a d t : ℕ) → m.word a ≡ mark d t → Act s m idle silent m (at_read_result d (via_mark t))
  -- the owner publishes
  publish_hit : {d : ℕ} → m.word (m.fields d).p1 ≡ plain (m.fields d).o1 → Act s m (at_publish d) silent (publish m d) (at_place_mark d true)
  publish_miss : {d : ℕ} → m.word (m.fields d).p1 ≢ plain (m.fields d).o1 → Act s m (at_publish d) (first_failed d) m idle
  -- a helper finds the swap open, or over
  read_open : {d : ℕ} {via : Via} → ¬ Closed (m.result d) → Act s m (at_read_result d via) silent m (at_place_mark d false)
  read_closed : {d : ℕ} {via : Via} → Closed (m.result d) → Act s m (at_read_result d via) silent m (at_clean d via)
  clean_descriptor : {d : ℕ} {m' : Memory} → Cas m (m.fields d).p1 (descriptor d) (plain (m.fields d).o1) m' → Act s m (at_clean d via_descriptor) silent m' idle
  clean_mark : {d t : ℕ} {m' : Memory} → Cas m (m.fields d).p2 (mark d t) (plain (m.fields d).o2) m' → Act s m (at_clean d (via_mark t)) silent m' idle
  -- the second word
  place_hit : {d : ℕ} {own : Bool} → m.word (m.fields d).p2 ≡ plain (m.fields d).o2 → Act s m (at_place_mark d own) silent (write m (m.fields d).p2 (mark d s)) (at_decide d own s true)
  place_miss : {d : ℕ} {own : Bool} → m.word (m.fields d).p2 ≢ plain (m.fields d).o2 → Act s m (at_place_mark d own) silent m (at_re_read d own)
  re_read_mark : {d : ℕ} {own : Bool} (t : ℕ) → m.word (m.fields d).p2 ≡ mark d t → Act s m (at_re_read d own) silent m (at_decide d own t false)
  re_read_other : {d : ℕ} {own : Bool} → ((t : ℕ) → m.word (m.fields d).p2 ≢ mark d t) → Act s m (at_re_read d own) silent m (at_try_fail d own)
  -- there was no mark: the swap fails, unless its result says otherwise
  fail_undecided : {d : ℕ} {own : Bool} → m.result d ≡ undecided → Act s m (at_try_fail d own) silent (set_result m d failed) (at_give_back d own)
  fail_failed : {d : ℕ} {own : Bool} → m.result d ≡ failed → Act s m (at_try_fail d own) silent m (at_give_back d own)
  fail_won : {d : ℕ} {own : Bool} (t : ℕ) → m.result d ≡ won t → Act s m (at_try_fail d own) silent m (at_finish_first d own t)
  fail_success : {d : ℕ} {own : Bool} → Ended true (m.result d) → Act s m (at_try_fail d own) (answers d true) m idle
  give_back_go : {d : ℕ} {own : Bool} {m' : Memory} → Cas m (m.fields d).p1 (descriptor d) (plain (m.fields d).o1) m' → Act s m (at_give_back d own) (answers d false) m' idle
  -- there is a mark: it decides, unless the result is decided already
  decide_wins : {d t : ℕ} {own placed : Bool} → m.result d ≡ undecided → Act s m (at_decide d own t placed) (decided d) (set_result m d (won t)) (at_finish_first d own t)
  decide_won : {d t : ℕ} {own placed : Bool} (r : ℕ) → m.result d ≡ won r → Act s m (at_decide d own t placed) silent m (at_finish_first d own r)
  decide_late : {d t : ℕ} {own : Bool} (ok : Bool) → Ended ok (m.result d) → Act s m (at_decide d own t true) silent m (at_withdraw d own ok)
  decide_ended : {d t : ℕ} {own : Bool} (ok : Bool) → Ended ok (m.result d) → Act s m (at_decide d own t false) (answers d ok) m idle
  -- the new words, then success
  finish_first_go : {d t : ℕ} {own : Bool} {m' : Memory} → Cas m (m.fields d).p1 (descriptor d) (plain (m.fields d).n1) m' → Act s m (at_finish_first d own t) silent m' (at_finish_second d own t)
  finish_second_go : {d t : ℕ} {own : Bool} {m' : Memory} → Cas m (m.fields d).p2 (mark d t) (plain (m.fields d).n2) m' → Act s m (at_finish_second d own t) silent m' (at_write_success d own t)
  write_success_go : {d t : ℕ} {own : Bool} → Act s m (at_write_success d own t) (answers d true) (set_result m d success) idle
  -- a mark that came too late is taken away again
  withdraw_go : {d : ℕ} {own ok : Bool} {m' : Memory} → Cas m (m.fields d).p2 (mark d s) (plain (m.fields d).o2) m' → Act s m (at_withdraw d own ok) (answers d ok) m' idle

-- the memory, and where each scanner stands
pub record State : Type 0 where
  pub memory : Memory
  pub at : ℕ → Position

-- One step of the whole machine: some scanner acts, or nothing happens.
pub data Step (σ : State) : Event → State → Type 0 where
  -- a turn of waiting, a read that leads to no help, a plain compare-and-swap that misses
  wait : Step σ silent σ
  act : (s : ℕ) {e : Event} {m' : Memory} {c : Position} → Act s σ.memory (σ.at s) e m' c → Step σ e (record { memory = m'; at = update σ.at s c })
