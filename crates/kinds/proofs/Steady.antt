-- What a kind shows of its facts, one clause for each thing that can happen. From these the points follow, for any requests at once.
use Rattle.std.proofs.Common.{◌≡◌, ℕ, ◌+◌, ◌≤◌, Bool, true, false, ◌||◌, List, [], Some, None, Option}
use Rattle.records.specs.declared.entries.Swap.{Swap}
use Rattle.kinds.specs.declared.acts.Notes.{Notes}
use Rattle.kinds.specs.declared.acts.PutAct.{PutAct}
use Rattle.kinds.specs.declared.acts.PutAct.TheVariants.{Read as PutRead, Tidy as PutTidy, Commit as PutCommit}
use Rattle.kinds.specs.declared.acts.TakeAct.{TakeAct}
use Rattle.kinds.specs.declared.acts.TakeAct.TheVariants.{Read as TakeRead, Tidy as TakeTidy, Commit as TakeCommit, Empty}
use Rattle.kinds.specs.Views.{View, Owned, Elsewhere, Wrote, Took, Refilled}
use Rattle.kinds.specs.Plain.{Within, adds, gives, yields}
use Rattle.kinds.specs.Plans.{Plan, start, found_nothing, Slot, idle, parked, puts, rests, takes, is_empty, finds}
use Rattle.kinds.specs.Runs.{Opened}
use Rattle.kinds.specs.Points.{PutKeeps, TakeKeeps, Swaps, PutEnds, TakeEnds, OpeningWord}
use Rattle.kinds.proofs.Ways.{Way, Each, node, Fits}

-- What is to be shown where the act is of the sort named; at the others there is nothing to show.
abbrev pub OnPutRead : PutAct → (ℕ → Type 0) → Type 0
OnPutRead (PutRead a) Q = Q a
OnPutRead (PutTidy w) Q = Unit {0}
OnPutRead (PutCommit w) Q = Unit {0}

abbrev pub OnPutTidy : PutAct → (Swap → Type 0) → Type 0
OnPutTidy (PutRead a) Q = Unit {0}
OnPutTidy (PutTidy w) Q = Q w
OnPutTidy (PutCommit w) Q = Unit {0}

abbrev pub OnPutCommit : PutAct → (Swap → Type 0) → Type 0
OnPutCommit (PutRead a) Q = Unit {0}
OnPutCommit (PutTidy w) Q = Unit {0}
OnPutCommit (PutCommit w) Q = Q w

abbrev pub OnTakeRead : TakeAct → (ℕ → Type 0) → Type 0
OnTakeRead (TakeRead a) Q = Q a
OnTakeRead (TakeTidy w) Q = Unit {0}
OnTakeRead (TakeCommit w x) Q = Unit {0}
OnTakeRead Empty Q = Unit {0}

abbrev pub OnTakeTidy : TakeAct → (Swap → Type 0) → Type 0
OnTakeTidy (TakeRead a) Q = Unit {0}
OnTakeTidy (TakeTidy w) Q = Q w
OnTakeTidy (TakeCommit w x) Q = Unit {0}
OnTakeTidy Empty Q = Unit {0}

abbrev pub OnTakeCommit : TakeAct → (Swap → ℕ → Type 0) → Type 0
OnTakeCommit (TakeRead a) Q = Unit {0}
OnTakeCommit (TakeTidy w) Q = Unit {0}
OnTakeCommit (TakeCommit w x) Q = Q w x
OnTakeCommit Empty Q = Unit {0}

abbrev pub OnEmpty : TakeAct → Type 0 → Type 0
OnEmpty (TakeRead a) Q = Unit {0}
OnEmpty (TakeTidy w) Q = Unit {0}
OnEmpty (TakeCommit w x) Q = Unit {0}
OnEmpty Empty Q = Q

abbrev pub OnSwap : Option Swap → (Swap → Type 0) → Type 0
OnSwap (Some w) Q = Q w
OnSwap None Q = Unit {0}

-- An act of the request that has node n to itself, or 0, after which the tray holds ys and the request is e.
pub record Stays (W : Way) (t : ℕ) (V V' : View) (g : W.Aux) (ys : List ℕ) (n : ℕ) (e : Slot) : Type 0 where
  pub aux : W.Aux
  pub shape : W.shape t V' aux ys
  pub own : Each W t V' aux e
  pub others : (r : Slot) → Fits V t r → (node r ≡ n → n ≡ 0) → Each W t V g r → Each W t V' aux r

-- the nodes that puts have to themselves, as the facts tell them
abbrev pub HeldPrivate : (W : Way) → ℕ → View → W.Aux → ℕ → Type 0
HeldPrivate W t V g n = Owned V t n × W.parked_put t V g n

pub record Steady (P : Plan) (W : Way) : Type 0 where
  pub rule_within : Within P.rule
  pub shows : (t : ℕ) (V : View) (g : W.Aux) (xs : List ℕ) → W.shape t V g xs → P.contents t V ≡ xs
  pub opens : (t n : ℕ) (V : View) → Opened P t n V → (g : W.Aux) × W.shape t V g []
  pub opens_first : (n : ℕ) → OpeningWord P.takes_node n (P.first n)
  pub opens_second : (n : ℕ) → OpeningWord P.takes_node n (P.second n)
  pub frame : (t : ℕ) (V V' : View) (g : W.Aux) (xs : List ℕ) → Elsewhere t V V' → W.shape t V g xs → W.shape t V' g xs × ((e : Slot) → Fits V t e → Each W t V g e → Each W t V' g e)
  -- takes start, and start over
  pub take_starts : (t : ℕ) (V : View) (g : W.Aux) (xs : List ℕ) → W.shape t V g xs → W.take t V g start false
  pub take_again : (t : ℕ) (V : View) (g : W.Aux) (xs : List ℕ) (m : Notes) (b : Bool) → W.shape t V g xs → W.take t V g m b → W.take t V g start b
  -- puts get a node, get another parcel, start, and are set aside
  pub gets_node : (t n : ℕ) (V V' : View) (g : W.Aux) (xs : List ℕ) → Took t n V V' → W.shape t V g xs → Stays W t V V' g xs 0 (parked n)
  pub refilled : (t n : ℕ) (V V' : View) (g : W.Aux) (xs : List ℕ) → Refilled n V V' → Owned V t n → W.shape t V g xs → W.parked_put t V g n → Stays W t V V' g xs n (parked n)
  pub put_starts : (t n : ℕ) (V : View) (g : W.Aux) (xs : List ℕ) → Owned V t n → W.shape t V g xs → W.parked_put t V g n → W.put t V g n start
  pub put_parks : (t n : ℕ) (V : View) (g : W.Aux) (xs : List ℕ) (m : Notes) → Owned V t n → W.shape t V g xs → W.put t V g n m → W.parked_put t V g n
  -- reads
  pub put_reads : (t n : ℕ) (V V' : View) (g : W.Aux) (xs : List ℕ) (m : Notes) → Owned V t n → W.shape t V g xs → W.put t V g n m → OnPutRead (P.put_act t n m) λ a.
      Wrote V V' (64 + n) (P.fill (P.put_noted m (finds P V (V.word a)))) → Stays W t V V' g xs n (puts n (P.put_noted m (finds P V (V.word a))))
  pub take_reads : (t : ℕ) (V : View) (g : W.Aux) (xs : List ℕ) (m : Notes) (b : Bool) → W.shape t V g xs → W.take t V g m b → OnTakeRead (P.take_act t m) λ a.
      W.take t V g (P.take_noted m (finds P V (V.word a))) (b || is_empty xs)
  -- tidying swaps that succeed, and that fail
  pub put_tidies : (t n : ℕ) (V V' : View) (g : W.Aux) (xs : List ℕ) (m : Notes) → Owned V t n → W.shape t V g xs → W.put t V g n m → OnPutTidy (P.put_act t n m) λ w.
      V.word w.address ≡ w.old → Wrote V V' w.address w.new → Stays W t V V' g xs n (puts n (P.put_noted m found_nothing))
  pub put_tidied_not : (t n : ℕ) (V : View) (g : W.Aux) (xs : List ℕ) (m : Notes) → Owned V t n → W.shape t V g xs → W.put t V g n m → OnPutTidy (P.put_act t n m) λ w. W.put t V g n (P.put_noted m found_nothing)
  pub take_tidies : (t : ℕ) (V V' : View) (g : W.Aux) (xs : List ℕ) (m : Notes) (b : Bool) → W.shape t V g xs → W.take t V g m b → OnTakeTidy (P.take_act t m) λ w.
      V.word w.address ≡ w.old → Wrote V V' w.address w.new → Stays W t V V' g xs 0 (takes (P.take_noted m found_nothing) b)
  pub take_tidied_not : (t : ℕ) (V : View) (g : W.Aux) (xs : List ℕ) (m : Notes) (b : Bool) → W.shape t V g xs → W.take t V g m b → OnTakeTidy (P.take_act t m) λ w. W.take t V g (P.take_noted m found_nothing) b
  pub last_tidies : (t n : ℕ) (V V' : View) (g : W.Aux) (xs : List ℕ) (m : Notes) → W.shape t V g xs → W.rest t V g n m → OnSwap (P.last_swap t n m) λ w.
      V.word w.address ≡ w.old → Wrote V V' w.address w.new → Stays W t V V' g xs 0 idle
  -- commits
  pub put_commits : (t n : ℕ) (V V' : View) (g : W.Aux) (xs : List ℕ) (m : Notes) → Owned V t n → W.shape t V g xs → W.put t V g n m → OnPutCommit (P.put_act t n m) λ w.
      V.word w.address ≡ w.old → Wrote V V' w.address w.new → Stays W t V V' g (adds P.rule (V.parcel n) xs) n (rests n m)
  pub take_commits : (t : ℕ) (V V' : View) (g : W.Aux) (xs : List ℕ) (m : Notes) (b : Bool) → W.shape t V g xs → W.take t V g m b → OnTakeCommit (P.take_act t m) λ w x.
      V.word w.address ≡ w.old → Wrote V V' w.address w.new → (ys : List ℕ) × (yields P.rule xs ≡ gives x ys) × Stays W t V V' g ys 0 idle
  pub empty_seen : (t : ℕ) (V : View) (g : W.Aux) (xs : List ℕ) (m : Notes) (b : Bool) → W.shape t V g xs → W.take t V g m b → OnEmpty (P.take_act t m) (b ≡ true)
  -- acts keep to the tray
  pub put_keeps : (t n : ℕ) (V : View) (g : W.Aux) (xs : List ℕ) (m : Notes) → Owned V t n → W.shape t V g xs → W.put t V g n m → PutKeeps P V (HeldPrivate W t V g) t (P.put_act t n m) × (P.fill m ≤ V.taken)
  pub take_keeps : (t : ℕ) (V : View) (g : W.Aux) (xs : List ℕ) (m : Notes) (b : Bool) → W.shape t V g xs → W.take t V g m b → TakeKeeps P V (HeldPrivate W t V g) t (P.take_act t m)
  pub last_keeps : (t n : ℕ) (V : View) (g : W.Aux) (xs : List ℕ) (m : Notes) → W.shape t V g xs → W.rest t V g n m → OnSwap (P.last_swap t n m) λ w. Swaps P V (HeldPrivate W t V g) t true w
  -- undisturbed runs
  pub put_ends : (t n : ℕ) (V : View) (g : W.Aux) (xs : List ℕ) → Owned V t n → W.shape t V g xs → W.put t V g n start → PutEnds P t P.most V n start
  pub take_ends : (t : ℕ) (V : View) (g : W.Aux) (xs : List ℕ) (b : Bool) → W.shape t V g xs → W.take t V g start b → TakeEnds P t P.most V start
