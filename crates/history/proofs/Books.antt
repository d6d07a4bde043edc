-- The ledger: all requests that took effect, or met their tray empty, or were worn, in that order, the last first; and what is kept about it.
-- It says nothing of memory: a scanner's request is off, waiting or effected.
use Rattle.std.proofs.Common.{◌≡◌, Bool, true, false, cond, List, [], ◌∷◌, ℕ, ◌+◌, ◌<◌, ◌≤◌, eqb}
use Rattle.records.specs.declared.scanner.Wish.{Wish}
use Rattle.kinds.specs.Plain.{Rule}
use Rattle.history.specs.Events.{Answer, gave, was_empty, worn, Story, hand_ins, Numbered, Handed, Answered, changes, effects}
use Rattle.history.specs.PlainLists.{Trays, Entry, run, Explains}
use Rattle.history.specs.Promises.{In, served, InTime}
use Rattle.history.proofs.Stands.{Stand, off, waiting, effected, On}

-- 1 for the one answer, 0 for the others
abbrev pub is_gave : Answer → ℕ
is_gave (gave x) = 1
is_gave was_empty = 0
is_gave worn = 0

abbrev pub is_worn : Answer → ℕ
is_worn (gave x) = 0
is_worn was_empty = 0
is_worn worn = 1

abbrev pub is_empty : Answer → ℕ
is_empty (gave x) = 0
is_empty was_empty = 1
is_empty worn = 0

-- how often request r is entered with such an answer
abbrev pub sum : (Answer → ℕ) → ℕ → List Entry → ℕ
sum f r [] = 0
sum f r (e ∷ es) = cond (eqb e.request r) (f e.answer) 0 + sum f r es

-- 1 for true
abbrev pub bit : Bool → ℕ
bit true = 1
bit false = 0

-- the entry of a request
abbrev pub entry : ℕ → Wish → Answer → Entry
entry r w a = record { request = r; wish = w; answer = a }

-- request r is entered with the answer a, and no other way that counts
abbrev pub Filed : ℕ → Answer → List Entry → Type 0
Filed r a L = ((w : Wish) × In (entry r w a) L) × (sum is_gave r L ≡ is_gave a) × (sum is_worn r L ≡ is_worn a)

module _ (n : ℕ) (h : Story) (L : List Entry) where
  -- what is booked of a scanner's request
  abbrev pub Booked : Stand → Type 0
  Booked off = Unit {0}
  Booked (waiting r w b) = (r < n) × ((a : Answer) → ¬ Answered r a h) × Handed r w h × (sum is_gave r L ≡ 0) × (sum is_worn r L ≡ 0) × (sum is_empty r L ≡ bit b) × (b ≡ true → In (entry r w was_empty) L)
  Booked (effected r w x) = (r < n) × ((a : Answer) → ¬ Answered r a h) × Handed r w h × (sum is_gave r L ≡ 1) × (sum is_worn r L ≡ 0) × In (entry r w (gave x)) L

-- All that is kept about the ledger L: n requests were handed in, st is how far each scanner's request is, T is in the trays, and h has happened.
pub record Books (R : ℕ → Rule) (trays n : ℕ) (st : ℕ → Stand) (T : Trays) (h : Story) (L : List Entry) : Type 0 where
  -- done on plain lists each entry gets its answer, and what they leave is in the trays
  pub explains : Explains R L
  pub holds : (t : ℕ) → t < trays → run R L t ≡ T t
  -- entries are of requests that were handed in, and a worn one was so answered
  pub handed : (e : Entry) → In e L → Handed e.request e.wish h
  pub worns : (e : Entry) → In e L → e.answer ≡ worn → Answered e.request worn h
  pub in_time : InTime h L
  -- those with a parcel are entered in the order in which they took effect
  pub in_effect : served L ≡ effects h
  -- what is kept of each scanner's request; no two scanners have the same
  pub booked : (s : ℕ) → Booked n h L (st s)
  pub apart : (s t r : ℕ) → On (st s) r → On (st t) r → s ≡ t
  -- how often a request is entered and took effect
  pub bounds : (r : ℕ) → (sum is_gave r L + sum is_worn r L ≤ 1) × (sum is_empty r L ≤ 1) × (changes r h ≡ sum is_gave r L)
  pub answered : (r : ℕ) (a : Answer) → Answered r a h → (r < n) × Filed r a L
  -- requests that are still to be handed in
  pub to_come : (r : ℕ) → n ≤ r → (sum is_gave r L ≡ 0) × (sum is_worn r L ≡ 0) × (sum is_empty r L ≡ 0)
  pub known : (r : ℕ) (w : Wish) → Handed r w h → r < n
  -- requests are numbered as they are handed in
  pub count : hand_ins h ≡ n
  pub numbered : Numbered h
