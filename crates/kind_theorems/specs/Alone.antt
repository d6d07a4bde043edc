-- Requests that are left alone at a tray: from their start each acts by itself, up to its commit.
use Rattle.std.specs.Prelude.{◌≡◌, false, [], ◌∷◌, ℕ, ◌+◌}
use Rattle.kinds.specs.declared.acts.Notes.{Notes}
use Rattle.kinds.specs.declared.acts.PutAct.TheVariants.{Read as PutRead, Tidy as PutTidy}
use Rattle.kinds.specs.declared.acts.TakeAct.TheVariants.{Read as TakeRead, Tidy as TakeTidy}
use Rattle.records.specs.declared.entries.Swap.{Swap}
use Rattle.kinds.specs.Views.{View, Wrote}
use Rattle.kinds.specs.Plans.{Plan, start, found_nothing, puts, takes, Requests, Turns, finds}
use Rattle.kinds.specs.Points.{Exactly}
use Rattle.kinds.specs.Runs.{Reached, Puts, Takes}

module _ (P : Plan) (t : ℕ) where
  -- the put of node n goes on from a view and its notes to those before its commit, and nobody else acts
  pub data PutAlone (n : ℕ) : View → Notes → View → Notes → Type 0 where
    put_here : {V : View} {m : Notes} → PutAlone n V m V m
    put_reads : {V V' V'' : View} {m m'' : Notes} (a : ℕ) → P.put_act t n m ≡ PutRead a → Wrote V V' (64 + n) (P.fill (P.put_noted m (finds P V (V.word a)))) →
        PutAlone n V' (P.put_noted m (finds P V (V.word a))) V'' m'' → PutAlone n V m V'' m''
    put_tidies : {V V' V'' : View} {m m'' : Notes} (w : Swap) → P.put_act t n m ≡ PutTidy w → Exactly V V' w → PutAlone n V' (P.put_noted m found_nothing) V'' m'' → PutAlone n V m V'' m''

  -- and a take
  pub data TakeAlone : View → Notes → View → Notes → Type 0 where
    take_here : {V : View} {m : Notes} → TakeAlone V m V m
    take_reads : {V V'' : View} {m m'' : Notes} (a : ℕ) → P.take_act t m ≡ TakeRead a → TakeAlone V (P.take_noted m (finds P V (V.word a))) V'' m'' → TakeAlone V m V'' m''
    take_tidies : {V V' V'' : View} {m m'' : Notes} (w : Swap) → P.take_act t m ≡ TakeTidy w → Exactly V V' w → TakeAlone V' (P.take_noted m found_nothing) V'' m'' → TakeAlone V m V'' m''

  -- A put that was left alone from these notes on, and has put its parcel x in.
  pub record PutDone (n : ℕ) (V : View) (m : Notes) (x : ℕ) (V' : View) (E' : Requests) : Type 0 where
    pub before : View
    pub requests : Requests
    pub notes : Notes
    pub alone : PutAlone n V m before notes
    pub commits : Puts P t before requests x V' E'

  -- A take that was left alone from these notes on, and has taken the parcel x out.
  pub record TakeDone (V : View) (m : Notes) (x : ℕ) (V' : View) (E' : Requests) : Type 0 where
    pub before : View
    pub requests : Requests
    pub notes : Notes
    pub alone : TakeAlone V m before notes
    pub commits : Takes P t before requests x V' E'

-- Whatever has come about at a tray that is now empty: a put that starts there and is left alone puts its parcel in, alone in the tray,
-- and a take that then starts, of any scanner that rests, and is left alone takes this parcel out, and leaves the tray empty.
abbrev pub PutThenTake : Plan → Type 0
PutThenTake P = (t : ℕ) (V : View) (E : Requests) → Reached P t V E → P.contents t V ≡ [] → (s n : ℕ) → E s ≡ puts n start →
    (V₁ : View) × (E₁ : Requests) × PutDone P t n V start (V.parcel n) V₁ E₁ × Reached P t V₁ E₁ × (P.contents t V₁ ≡ V.parcel n ∷ [])
    × ((r : ℕ) (E₂ : Requests) → Turns E₁ E₂ r (takes start false) → Reached P t V₁ E₂ →
    (V₃ : View) × (E₃ : Requests) × TakeDone P t V₁ start (V.parcel n) V₃ E₃ × Reached P t V₃ E₃ × (P.contents t V₃ ≡ []))
