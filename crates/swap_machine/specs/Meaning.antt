-- What a word stands for, and what each event says of the memory before and after it.
use Rattle.std.specs.Prelude.{◌≡◌, cond, ◌≢◌, ℕ, eqb}
use Rattle.swap_machine.specs.Update.{update}
use Rattle.swap_machine.specs.Machine.{Word, plain, descriptor, mark, Outcome, fresh, undecided, failed, won, success, Fields, Memory, Event, silent, swapped, decided, first_failed, answers, Ended}

-- A descriptor stands for its first new word once it is decided, else for the old one.
abbrev pub first_value : Fields → Outcome → ℕ
first_value o fresh = o.o1
first_value o undecided = o.o1
first_value o failed = o.o1
first_value o (won t) = o.n1
first_value o success = o.n1

-- The mark of scanner s stands for the second new word if it decided, else for the old one: with success, each mark that is left came too late.
abbrev pub second_value : Fields → ℕ → Outcome → ℕ
second_value o s fresh = o.o2
second_value o s undecided = o.o2
second_value o s failed = o.o2
second_value o s (won t) = cond (eqb t s) o.n2 o.o2
second_value o s success = o.o2

abbrev pub value : Memory → Word → ℕ
value m (plain n) = n
value m (descriptor d) = first_value (m.fields d) (m.result d)
value m (mark d s) = second_value (m.fields d) s (m.result d)

-- what address a stands for
abbrev pub stands_for : Memory → ℕ → ℕ
stands_for m a = value m (m.word a)

-- no address stands for anything else than before
abbrev pub Same : Memory → Memory → Type 0
Same m m' = (a : ℕ) → stands_for m' a ≡ stands_for m a

-- 1 where the swap has taken place, else 0
abbrev pub taken : Outcome → ℕ
taken fresh = 0
taken undecided = 0
taken failed = 0
taken (won s) = 1
taken success = 1

-- The decision of d: its two addresses differ and stand for the old words before and for the new words after, and no other address changes.
pub record Decides (m : Memory) (d : ℕ) (m' : Memory) : Type 0 where
  pub before : m.result d ≡ undecided
  pub after : taken (m'.result d) ≡ 1
  pub old_first : stands_for m (m.fields d).p1 ≡ (m.fields d).o1
  pub old_second : stands_for m (m.fields d).p2 ≡ (m.fields d).o2
  pub new : (a : ℕ) → stands_for m' a ≡ update (update (stands_for m) (m.fields d).p1 (m.fields d).n1) (m.fields d).p2 (m.fields d).n2 a
  pub two : (m.fields d).p1 ≢ (m.fields d).p2

-- What an event says of the memory before and after it.
abbrev pub Says : Event → Memory → Memory → Type 0
Says silent m m' = Same m m'
Says (swapped a x y) m m' = (stands_for m a ≡ x) × ((b : ℕ) → stands_for m' b ≡ update (stands_for m) a y b)
Says (decided d) m m' = Decides m d m'
Says (first_failed d) m m' = Same m m' × (m'.result d ≡ fresh)
Says (answers d ok) m m' = Same m m' × Ended ok (m'.result d)
