-- What happened on a day, as a list of events. A request goes by its number: requests are numbered from 0 as they are handed in.
use Rattle.std.specs.Prelude.{◌≡◌, ◌⊎◌, cond, List, [], ◌∷◌, ℕ, ◌+◌, eqb}
use Rattle.records.specs.declared.scanner.Wish.{Wish}

-- What a request is told: the parcel that it put, took or moved; that its tray was empty; or that it is worn, since no descriptor was left.
pub data Answer : Type 0 where
  gave : ℕ → Answer
  was_empty worn : Answer

-- a request was handed in with its wish; nothing that anyone can tell; a request took effect; a request was answered
pub data Event : Type 0 where
  handed : ℕ → Wish → Event
  quiet : Event
  caused : ℕ → Event
  answered : ℕ → Answer → Event

-- the last event first
abbrev pub Story : Type 0
Story = List Event

-- the event hands in request r with the wish w
abbrev pub Hands : ℕ → Wish → Event → Type 0
Hands r w (handed q v) = (q ≡ r) × (v ≡ w)
Hands r w quiet = ⊥
Hands r w (caused q) = ⊥
Hands r w (answered q a) = ⊥

-- the event answers request r with a
abbrev pub Replies : ℕ → Answer → Event → Type 0
Replies r a (handed q v) = ⊥
Replies r a quiet = ⊥
Replies r a (caused q) = ⊥
Replies r a (answered q b) = (q ≡ r) × (b ≡ a)

-- 1 if request r takes effect by the event
abbrev pub causes : ℕ → Event → ℕ
causes r (handed q v) = 0
causes r quiet = 0
causes r (caused q) = cond (eqb q r) 1 0
causes r (answered q a) = 0

-- 1 for a hand-in
abbrev pub hand_in : Event → ℕ
hand_in (handed q v) = 1
hand_in quiet = 0
hand_in (caused q) = 0
hand_in (answered q a) = 0

-- how many requests were handed in
abbrev pub hand_ins : Story → ℕ
hand_ins [] = 0
hand_ins (e ∷ h) = hand_ins h + hand_in e

-- a request that is handed in has the number n
abbrev pub Numbers : ℕ → Event → Type 0
Numbers n (handed q v) = q ≡ n
Numbers n quiet = Unit {0}
Numbers n (caused q) = Unit {0}
Numbers n (answered q a) = Unit {0}

-- each request has the number of those that were handed in before it
abbrev pub Numbered : Story → Type 0
Numbered [] = Unit {0}
Numbered (e ∷ h) = Numbers (hand_ins h) e × Numbered h

-- request r was handed in with the wish w
abbrev pub Handed : ℕ → Wish → Story → Type 0
Handed r w [] = ⊥
Handed r w (e ∷ h) = Hands r w e ⊎ Handed r w h

-- request r was answered with a
abbrev pub Answered : ℕ → Answer → Story → Type 0
Answered r a [] = ⊥
Answered r a (e ∷ h) = Replies r a e ⊎ Answered r a h

-- how often request r took effect
abbrev pub changes : ℕ → Story → ℕ
changes r [] = 0
changes r (e ∷ h) = causes r e + changes r h

-- the requests that took effect, the last first
abbrev pub effects : Story → List ℕ
effects [] = []
effects (handed q v ∷ h) = effects h
effects (quiet ∷ h) = effects h
effects (caused q ∷ h) = q ∷ effects h
effects (answered q a ∷ h) = effects h

-- request r was answered with a before request q was handed in
abbrev pub Precedes : ℕ → Answer → ℕ → Story → Type 0
Precedes r a q [] = ⊥
Precedes r a q (e ∷ h) = ((w : Wish) × Hands q w e × Answered r a h) ⊎ Precedes r a q h
