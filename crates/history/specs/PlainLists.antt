-- The plain lists: one list of parcels for each tray, and requests that are done one after the other, each at once.
use Rattle.std.specs.Prelude.{◌≡◌, ◌≢◌, List, [], ◌∷◌, ℕ, ◌<◌}
use Rattle.records.specs.declared.scanner.Wish.{Wish}
use Rattle.records.specs.declared.scanner.Wish.TheVariants.{Put, Take, Move}
use Rattle.kinds.specs.Plain.{Rule, Within, adds, Given, nothing, gives, yields}
use Rattle.history.specs.Update.{update}
use Rattle.history.specs.Events.{Answer, gave, was_empty, worn}

-- what is in each tray, by the tray's number
abbrev pub Trays : Type 0
Trays = ℕ → List ℕ

-- a request with its answer
pub record Entry : Type 0 where
  pub request : ℕ
  pub wish : Wish
  pub answer : Answer

-- the answer to what a plain list gives
abbrev pub told : Given → Answer
told nothing = was_empty
told (gives x ys) = gave x

-- the trays after tray t gave that
abbrev pub without : ℕ → Trays → Given → Trays
without t T nothing = T
without t T (gives x ys) = update T t ys

-- R is the plain rule of each tray.
module _ (R : ℕ → Rule) where
  -- the trays after tray f gave that and tray g got it
  abbrev pub shifted : ℕ → ℕ → Trays → Given → Trays
  shifted f g T nothing = T
  shifted f g T (gives x ys) = update (update T f ys) g (adds (R g) x (T g))

  -- what a request with this wish is told
  abbrev pub reply : Wish → Trays → Answer
  reply (Put t x) T = gave x
  reply (Take t) T = told (yields (R t) (T t))
  reply (Move f g) T = told (yields (R f) (T f))

  -- and what it leaves in the trays
  abbrev pub after : Wish → Trays → Trays
  after (Put t x) T = update T t (adds (R t) x (T t))
  after (Take t) T = without t T (yields (R t) (T t))
  after (Move f g) T = shifted f g T (yields (R f) (T f))

  -- a worn request changes nothing
  abbrev pub outcome : Wish → Answer → Trays → Trays
  outcome w (gave x) T = after w T
  outcome w was_empty T = after w T
  outcome w worn T = T

  -- a worn request may be so anywhere; any other has the answer of the plain lists
  abbrev pub Right : Wish → Answer → Trays → Type 0
  Right w (gave x) T = reply w T ≡ gave x
  Right w was_empty T = reply w T ≡ was_empty
  Right w worn T = Unit {0}

  -- requests in their order, the last first: what they leave in the trays, which are empty at first
  abbrev pub run : List Entry → Trays
  run [] = λ t. []
  run (e ∷ es) = outcome e.wish e.answer (run es)

  -- each of them has its answer
  abbrev pub Explains : List Entry → Type 0
  Explains [] = Unit {0}
  Explains (e ∷ es) = Right e.wish e.answer (run es) × Explains es

-- The second list is the first with x at one place more; the others stand in their order.
pub data Inserted (x : ℕ) : List ℕ → List ℕ → Type 0 where
  here : {xs : List ℕ} → Inserted x xs (x ∷ xs)
  later : {y : ℕ} {xs ys : List ℕ} → Inserted x xs ys → Inserted x (y ∷ xs) (y ∷ ys)

-- nothing from the empty list alone; else one of its parcels, and the others in their order
abbrev pub Rightly : List ℕ → Given → Type 0
Rightly xs nothing = xs ≡ []
Rightly xs (gives x ys) = Inserted x ys xs

-- the trays that the wish names are on a board with so many trays, and a move's are different
abbrev pub OnBoard : ℕ → Wish → Type 0
OnBoard trays (Put t x) = t < trays
OnBoard trays (Take t) = t < trays
OnBoard trays (Move f g) = (f < trays) × (g < trays) × (f ≢ g)

-- The trays change as the wish names it, by the plain rule, and x is the parcel: put in, taken out, or moved over. All other trays stay.
abbrev pub Change : (ℕ → Rule) → ℕ → Wish → ℕ → Trays → Trays → Type 0
Change R trays (Put t y) x T T' = (t < trays) × (y ≡ x) × (T' t ≡ adds (R t) x (T t)) × ((u : ℕ) → u < trays → u ≢ t → T' u ≡ T u)
Change R trays (Take t) x T T' = (t < trays) × (yields (R t) (T t) ≡ gives x (T' t)) × ((u : ℕ) → u < trays → u ≢ t → T' u ≡ T u)
Change R trays (Move f g) x T T' =
    (f < trays) × (g < trays) × (f ≢ g) × (yields (R f) (T f) ≡ gives x (T' f)) × (T' g ≡ adds (R g) x (T g)) × ((u : ℕ) → u < trays → u ≢ f → u ≢ g → T' u ≡ T u)

-- whatever the rule: one parcel more in a tray, one less, or one less here and one more there
abbrev pub ByOne : Wish → ℕ → Trays → Trays → Type 0
ByOne (Put t y) x T T' = Inserted x (T t) (T' t)
ByOne (Take t) x T T' = Inserted x (T' t) (T t)
ByOne (Move f g) x T T' = Inserted x (T' f) (T f) × Inserted x (T g) (T' g)

-- the tray that a take or a move takes from is empty; a put never finds that
abbrev pub FindsEmpty : Wish → Trays → Type 0
FindsEmpty (Put t x) T = ⊥
FindsEmpty (Take t) T = T t ≡ []
FindsEmpty (Move f g) T = T f ≡ []

-- what the answer says of the trays before and after
abbrev pub Means : (ℕ → Rule) → ℕ → Wish → Answer → Trays → Trays → Type 0
Means R trays w (gave x) T T' = Change R trays w x T T' × ByOne w x T T'
Means R trays w was_empty T T' = FindsEmpty w T × ((t : ℕ) → T' t ≡ T t)
Means R trays w worn T T' = ⊥

-- The plain lists, for every rule that gives what is there: what they answer names the change that they make, which is of one parcel, or of none where the tray was empty.
abbrev pub PlainChange : Type 0
PlainChange = (R : ℕ → Rule) → ((t : ℕ) → Within (R t)) → (trays : ℕ) (w : Wish) → OnBoard trays w → (T : Trays) → Means R trays w (reply R w T) T (after R w T)
