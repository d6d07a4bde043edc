-- The two promises about a day: one order explains all answers, and every request causes exactly its one change.
use Rattle.std.specs.Prelude.{◌≡◌, ◌⊎◌, cond, List, [], ◌∷◌, ℕ, ◌+◌, ◌<◌, ◌≤◌, eqb}
use Rattle.records.specs.declared.scanner.Wish.{Wish}
use Rattle.kinds.specs.Plain.{Rule}
use Rattle.history.specs.Events.{Answer, gave, was_empty, worn, Event, handed, quiet, caused, answered, Story, Numbered, Handed, Answered, changes, effects, Precedes}
use Rattle.history.specs.PlainLists.{Trays, Entry, run, Explains, Change}

-- the entry stands in the order
abbrev pub In : Entry → List Entry → Type 0
In e [] = ⊥
In e (f ∷ es) = (e ≡ f) ⊎ In e es

-- how often request r stands in the order
abbrev pub times : ℕ → List Entry → ℕ
times r [] = 0
times r (e ∷ es) = cond (eqb e.request r) 1 0 + times r es

-- request r in front of the others, if it has a parcel
abbrev pub adds_served : ℕ → Answer → List ℕ → List ℕ
adds_served r (gave x) rs = r ∷ rs
adds_served r was_empty rs = rs
adds_served r worn rs = rs

-- the requests of an order that have a parcel
abbrev pub served : List Entry → List ℕ
served [] = []
served (e ∷ es) = adds_served e.request e.answer (served es)

-- Before each request of the order stand all that were answered before it was handed in.
abbrev pub InTime : Story → List Entry → Type 0
InTime h [] = Unit {0}
InTime h (e ∷ es) = ((r : ℕ) (a : Answer) → Precedes r a e.request h → (w : Wish) × In (record { request = r; wish = w; answer = a }) es) × InTime h es

-- 1. One order of requests explains every answer, and what is in the trays now.
pub record OneOrder (R : ℕ → Rule) (trays : ℕ) (h : Story) (now : Trays) : Type 0 where
  -- each request has a number of its own
  pub numbered : Numbered h
  -- the last request first
  pub order : List Entry
  -- each stands in it at most once
  pub once : (r : ℕ) → times r order ≤ 1
  -- every answered request, with its answer
  pub every : (r : ℕ) (a : Answer) → Answered r a h → (w : Wish) × In (record { request = r; wish = w; answer = a }) order
  -- only requests that were handed in, with their wishes
  pub only : (e : Entry) → In e order → Handed e.request e.wish h
  -- a worn one only if it was so answered
  pub worns : (e : Entry) → In e order → e.answer ≡ worn → Answered e.request worn h
  -- done on plain lists in this order, each request gets its answer
  pub explains : Explains R order
  -- and what they leave is what is in the trays
  pub ends : (t : ℕ) → t < trays → run R order t ≡ now t
  -- what was answered before another was handed in stands before it
  pub in_time : InTime h order
  -- those with a parcel stand in the order in which they took effect
  pub in_effect : served order ≡ effects h

-- What one event did to the trays: nothing, or what the wish of the request that took effect names, with one parcel.
abbrev pub Does : (ℕ → Rule) → ℕ → Story → Event → Trays → Trays → Type 0
Does R trays h (handed r w) T T' = (t : ℕ) → t < trays → T' t ≡ T t
Does R trays h quiet T T' = (t : ℕ) → t < trays → T' t ≡ T t
Does R trays h (caused r) T T' = (w : Wish) × (x : ℕ) × Handed r w h × Change R trays w x T T'
Does R trays h (answered r a) T T' = (t : ℕ) → t < trays → T' t ≡ T t

-- an event with what was in the trays before and after
pub record Moment : Type 0 where
  pub event : Event
  pub before : Trays
  pub later : Trays

-- the events alone
abbrev pub events : List Moment → Story
events [] = []
events (m ∷ ms) = m.event ∷ events ms

-- Moments, the last first: each starts from what the one before it left, and does what its event says. The trays are empty at first.
abbrev pub Traced : (ℕ → Rule) → ℕ → List Moment → Trays → Type 0
Traced R trays [] now = (t : ℕ) → t < trays → now t ≡ []
Traced R trays (m ∷ ms) now = ((t : ℕ) → t < trays → now t ≡ m.later t) × Does R trays (events ms) m.event m.before m.later × Traced R trays ms m.before

-- how many changes a request has caused that was answered so
abbrev pub due : Answer → ℕ
due (gave x) = 1
due was_empty = 0
due worn = 0

-- the moment is one of them
abbrev pub Among : Moment → List Moment → Type 0
Among m [] = ⊥
Among m (k ∷ ms) = (m ≡ k) ⊎ Among m ms

-- the change of a request that was answered with the parcel x is of this parcel
abbrev pub Carries : (ℕ → Rule) → ℕ → List Moment → Type 0
Carries R trays ms = (r x : ℕ) (m : Moment) → Among m ms → m.event ≡ caused r → Answered r (gave x) (events ms) → (w : Wish) × Handed r w (events ms) × Change R trays w x m.before m.later

-- 2. Every request causes exactly its one change.
pub record OneChange (R : ℕ → Rule) (trays : ℕ) (ms : List Moment) (now : Trays) : Type 0 where
  -- nothing but a request's effect changes a tray
  pub traced : Traced R trays ms now
  -- a request that was answered with a parcel has caused one change, any other answered one none
  pub answered : (r : ℕ) (a : Answer) → Answered r a (events ms) → changes r (events ms) ≡ due a
  -- every request causes at most one
  pub at_most : (r : ℕ) → changes r (events ms) ≤ 1
  -- and it is of the parcel that the request was answered with
  pub carries : Carries R trays ms

-- Where one order explains the answers of moments that are traced, every change is of the parcel that its request was answered with.
abbrev pub OrderCarries : Type 0
OrderCarries = (R : ℕ → Rule) (trays : ℕ) (ms : List Moment) (now : Trays) → OneOrder R trays (events ms) now → Traced R trays ms now → Carries R trays ms
