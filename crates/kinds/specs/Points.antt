-- What every kind of tray shows, of everything that can have come about at a tray.
use Rattle.std.specs.Prelude.{◌≡◌, ℕ, zero, suc, ◌+◌, ◌<◌, ◌≤◌, Bool, true, false, ◌≢◌, ◌⊎◌, [], Some}
use Rattle.records.specs.declared.entries.Swap.{Swap}
use Rattle.kinds.specs.declared.acts.Notes.{Notes}
use Rattle.kinds.specs.declared.acts.PutAct.{PutAct}
use Rattle.kinds.specs.declared.acts.PutAct.TheVariants.{Read as PutRead, Tidy as PutTidy, Commit as PutCommit}
use Rattle.kinds.specs.declared.acts.TakeAct.{TakeAct}
use Rattle.kinds.specs.declared.acts.TakeAct.TheVariants.{Read as TakeRead, Tidy as TakeTidy, Commit as TakeCommit, Empty}
use Rattle.kinds.specs.Views.{View, Owned, Mine, Same, Wrote}
use Rattle.kinds.specs.Plain.{Within, adds, gives, yields}
use Rattle.kinds.specs.Plans.{Plan, start, found_nothing, puts, rests, takes, Requests, Private, finds}
use Rattle.kinds.specs.Runs.{Opened, Quiet, Puts, Takes, Reached}

-- An address that a request may read or swap: of the tray, and not in a node that a put has to itself still, which nobody else has met.
pub record Shared (V : View) (private : ℕ → Type 0) (t a : ℕ) : Type 0 where
  pub mine : Mine V t a
  pub unmet : (n : ℕ) → private n → a ≢ 64 + n

-- A read. What a kind peeks into is nil or a node of the tray.
pub record Reads (P : Plan) (V : View) (private : ℕ → Type 0) (t a : ℕ) : Type 0 where
  pub shared : Shared V private t a
  pub peeked : P.peeks ≡ true → (V.word a ≡ 0) ⊎ Owned V t (V.word a)

-- A swap, from and to nil or taken nodes. A kind that peeks into next words swaps none. Tidying swaps and commits keep to different words.
pub record Swaps (P : Plan) (V : View) (private : ℕ → Type 0) (t : ℕ) (tidies : Bool) (w : Swap) : Type 0 where
  pub shared : Shared V private t w.address
  pub old : w.old ≤ V.taken
  pub new : w.new ≤ V.taken
  pub calm : P.peeks ≡ true → w.address < 64
  pub apart : P.tidied t w.address ≡ tidies

abbrev pub PutKeeps : Plan → View → (ℕ → Type 0) → ℕ → PutAct → Type 0
PutKeeps P V private t (PutRead a) = Reads P V private t a
PutKeeps P V private t (PutTidy w) = Swaps P V private t true w
PutKeeps P V private t (PutCommit w) = Swaps P V private t false w

abbrev pub TakeKeeps : Plan → View → (ℕ → Type 0) → ℕ → TakeAct → Type 0
TakeKeeps P V private t (TakeRead a) = Reads P V private t a
TakeKeeps P V private t (TakeTidy w) = Swaps P V private t true w
TakeKeeps P V private t (TakeCommit w x) = Swaps P V private t false w
TakeKeeps P V private t Empty = Unit {0}

-- An undisturbed swap writes exactly if it finds its old word.
pub data Exactly (V V' : View) (w : Swap) : Type 0 where
  hit : V.word w.address ≡ w.old → Wrote V V' w.address w.new → Exactly V V' w
  miss : V.word w.address ≢ w.old → Same V V' → Exactly V V' w

-- An undisturbed act, after which `then` is to hold of the view and the notes; or a commit that succeeds, or a finish.
abbrev pub PutAlone : Plan → (View → Notes → Type 0) → View → ℕ → Notes → PutAct → Type 0
PutAlone P then V n m (PutRead a) = (V' : View) → Wrote V V' (64 + n) (P.fill (P.put_noted m (finds P V (V.word a)))) → then V' (P.put_noted m (finds P V (V.word a)))
PutAlone P then V n m (PutTidy w) = (V' : View) → Exactly V V' w → then V' (P.put_noted m found_nothing)
PutAlone P then V n m (PutCommit w) = V.word w.address ≡ w.old

abbrev pub TakeAlone : Plan → (View → Notes → Type 0) → View → Notes → TakeAct → Type 0
TakeAlone P then V m (TakeRead a) = then V (P.take_noted m (finds P V (V.word a)))
TakeAlone P then V m (TakeTidy w) = (V' : View) → Exactly V V' w → then V' (P.take_noted m found_nothing)
TakeAlone P then V m (TakeCommit w x) = V.word w.address ≡ w.old
TakeAlone P then V m Empty = Unit {0}

-- Undisturbed, the request comes within so many acts to a commit that succeeds, or finishes.
abbrev pub PutEnds : Plan → ℕ → ℕ → View → ℕ → Notes → Type 0
PutEnds P t zero V n m = ⊥
PutEnds P t (suc k) V n m = PutAlone P (λ V' m'. PutEnds P t k V' n m') V n m (P.put_act t n m)

abbrev pub TakeEnds : Plan → ℕ → ℕ → View → Notes → Type 0
TakeEnds P t zero V m = ⊥
TakeEnds P t (suc k) V m = TakeAlone P (λ V' m'. TakeEnds P t k V' m') V m (P.take_act t m)

-- a word that opening may write: nil, or the node that was taken for it
abbrev pub OpeningWord : Bool → ℕ → ℕ → Type 0
OpeningWord lead node word = (word ≡ 0) ⊎ ((lead ≡ true) × (word ≡ node))

-- the nodes that puts have to themselves
abbrev pub KeptPrivate : Requests → ℕ → Type 0
KeptPrivate E n = (r : ℕ) × Private (E r) n

pub record Points (P : Plan) : Type 0 where
  -- A commit that succeeds changes the contents by the plain rule, with the parcel that it named.
  pub rule_within : Within P.rule
  pub put_adds : (t : ℕ) (V V' : View) (E E' : Requests) (x : ℕ) → Reached P t V E → Puts P t V E x V' E' → P.contents t V' ≡ adds P.rule x (P.contents t V)
  pub take_gives : (t : ℕ) (V V' : View) (E E' : Requests) (x : ℕ) → Reached P t V E → Takes P t V E x V' E' → yields P.rule (P.contents t V) ≡ gives x (P.contents t V')
  -- Nothing else changes the contents: no other act, no taking or filling of a node, and nothing that happens elsewhere.
  pub others_keep : (t : ℕ) (V V' : View) (E E' : Requests) → Reached P t V E → Quiet P t V E V' E' → P.contents t V' ≡ P.contents t V
  -- "Empty" follows a read, made in this request, at which the contents were empty.
  pub empty_seen : (t : ℕ) (V : View) (E : Requests) → Reached P t V E → (s : ℕ) (m : Notes) (b : Bool) → E s ≡ takes m b → P.take_act t m ≡ Empty → b ≡ true
  -- It reads and swaps only its tray's words and the next words of its nodes, from and to nil or taken nodes, and a put fills its node with such a word.
  pub put_keeps : (t : ℕ) (V : View) (E : Requests) → Reached P t V E → (s n : ℕ) (m : Notes) → E s ≡ puts n m → PutKeeps P V (KeptPrivate E) t (P.put_act t n m) × (P.fill m ≤ V.taken)
  pub take_keeps : (t : ℕ) (V : View) (E : Requests) → Reached P t V E → (s : ℕ) (m : Notes) (b : Bool) → E s ≡ takes m b → TakeKeeps P V (KeptPrivate E) t (P.take_act t m)
  pub last_keeps : (t : ℕ) (V : View) (E : Requests) → Reached P t V E → (s n : ℕ) (m : Notes) (w : Swap) → E s ≡ rests n m → P.last_swap t n m ≡ Some w → Swaps P V (KeptPrivate E) t true w
  -- Opening leaves the contents empty, and writes nil or the node that it takes.
  pub opens_empty : (t n : ℕ) (V : View) → Opened P t n V → P.contents t V ≡ []
  pub opens_first : (n : ℕ) → OpeningWord P.takes_node n (P.first n)
  pub opens_second : (n : ℕ) → OpeningWord P.takes_node n (P.second n)
  -- Undisturbed, a request comes from its start within the named number of acts to a commit, which succeeds, or to a finish.
  pub put_ends : (t : ℕ) (V : View) (E : Requests) → Reached P t V E → (s n : ℕ) → E s ≡ puts n start → PutEnds P t P.most V n start
  pub take_ends : (t : ℕ) (V : View) (E : Requests) → Reached P t V E → (s : ℕ) (b : Bool) → E s ≡ takes start b → TakeEnds P t P.most V start
