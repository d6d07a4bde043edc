-- What a kind of tray says of itself, and the requests that are at a tray.
use Rattle.std.specs.Prelude.{◌≡◌, ℕ, zero, suc, ◌+◌, Bool, true, false, cond, ◌≢◌, List, [], ◌∷◌, Option}
use Rattle.records.specs.declared.entries.Swap.{Swap}
use Rattle.kinds.specs.declared.acts.Found.{Found}
use Rattle.kinds.specs.declared.acts.Notes.{Notes}
use Rattle.kinds.specs.declared.acts.PutAct.{PutAct}
use Rattle.kinds.specs.declared.acts.TakeAct.{TakeAct}
use Rattle.kinds.specs.Plain.{Rule}
use Rattle.kinds.specs.Views.{View, Same, Wrote}

pub record Plan : Type 0 where
  -- whether opening takes a leading node, and what it writes into the tray's two words, by that node's number or by 0
  pub takes_node : Bool
  pub first : ℕ → ℕ
  pub second : ℕ → ℕ
  -- whether a read that finds a node also reads its next word privately
  pub peeks : Bool
  -- the next act at a tray: of a put of a node, and of a take
  pub put_act : ℕ → ℕ → Notes → PutAct
  pub take_act : ℕ → Notes → TakeAct
  -- the notes after a read, with what it found, and after a tidying swap, with nothing
  pub put_noted : Notes → Found → Notes
  pub take_noted : Notes → Found → Notes
  -- what a put fills its own node's next word with
  pub fill : Notes → ℕ
  -- at a tray, for a put of a node that has succeeded: the tidying swap that is left
  pub last_swap : ℕ → ℕ → Notes → Option Swap
  -- the addresses of a tray that tidying swaps alone may change
  pub tidied : ℕ → ℕ → Bool
  -- the most acts from a start to a commit or a finish, when undisturbed
  pub most : ℕ
  -- the parcels in a tray, as memory shows them, and the plain rule
  pub contents : ℕ → View → List ℕ
  pub rule : Rule

abbrev pub start : Notes
start = record { stage = 0; one = 0; two = 0; three = 0; parcel = 0 }

abbrev pub found_nothing : Found
found_nothing = record { word = 0; next = 0; parcel = 0 }

-- A request at a tray.
pub data Slot : Type 0 where
  idle : Slot
  -- a put that has its node and is not under way
  parked : ℕ → Slot
  puts : ℕ → Notes → Slot
  -- a put past its success
  rests : ℕ → Notes → Slot
  -- a take, and whether a read of it has met the tray empty
  takes : Notes → Bool → Slot

-- by the scanner
abbrev pub Requests : Type 0
Requests = ℕ → Slot

-- The request of s becomes e, and the others stay.
pub record Turns (E E' : Requests) (s : ℕ) (e : Slot) : Type 0 where
  pub here : E' s ≡ e
  pub there : (r : ℕ) → r ≢ s → E' r ≡ E r

-- the node that a put has to itself
abbrev pub Private : Slot → ℕ → Type 0
Private idle n = ⊥
Private (parked k) n = k ≡ n
Private (puts k m) n = k ≡ n
Private (rests k m) n = ⊥
Private (takes m b) n = ⊥

abbrev pub is_empty : List ℕ → Bool
is_empty [] = true
is_empty (x ∷ xs) = false

-- what a read of the word w finds: of a node its parcel too, and its next word where the kind peeks
abbrev pub finds : Plan → View → ℕ → Found
finds P V zero = found_nothing
finds P V (suc n) = record { word = suc n; next = cond P.peeks (V.word (64 + suc n)) 0; parcel = V.parcel (suc n) }

-- A tidying swap, whose success nobody looks at. It may fail although the word stands for the old one, since a two-word swap may be under way there.
pub data Swapped (V V' : View) (w : Swap) : Type 0 where
  did : V.word w.address ≡ w.old → Wrote V V' w.address w.new → Swapped V V' w
  did_not : Same V V' → Swapped V V' w

-- of two kinds as one: number 0 is the first, and j + 1 is number j of the second
abbrev pub pick : {X : Type 0} → (ℕ → X) → (ℕ → X) → ℕ → X
pick f g zero = f 0
pick f g (suc j) = g j
