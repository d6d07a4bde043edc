-- A way to show the points by simple facts: one of the tray, and one of each request by itself.
use Rattle.std.proofs.Common.{◌≡◌, ℕ, Bool, ◌≢◌, List}
use Rattle.kinds.specs.declared.acts.Notes.{Notes}
use Rattle.kinds.specs.Views.{View, Owned}
use Rattle.kinds.specs.Plans.{Slot, idle, parked, puts, rests, takes, Requests}

pub record Way : Type 1 where
  -- what no word shows, as which nodes were ever linked
  pub Aux : Type 0
  -- what holds of the tray, with the parcels in it
  pub shape : ℕ → View → Aux → List ℕ → Type 0
  -- what holds of a put that is not under way, by its node
  pub parked_put : ℕ → View → Aux → ℕ → Type 0
  -- of a put and of a take under way, by their notes, and of a put past its success
  pub put : ℕ → View → Aux → ℕ → Notes → Type 0
  pub take : ℕ → View → Aux → Notes → Bool → Type 0
  pub rest : ℕ → View → Aux → ℕ → Notes → Type 0

abbrev pub Each : (W : Way) → ℕ → View → W.Aux → Slot → Type 0
Each W t V g idle = Unit {0}
Each W t V g (parked n) = W.parked_put t V g n
Each W t V g (puts n m) = W.put t V g n m
Each W t V g (rests n m) = W.rest t V g n m
Each W t V g (takes m b) = W.take t V g m b

-- the node that a request's put has to itself, or 0
abbrev pub node : Slot → ℕ
node idle = 0
node (parked n) = n
node (puts n m) = n
node (rests n m) = 0
node (takes m b) = 0

-- that node is the tray's
abbrev pub Fits : View → ℕ → Slot → Type 0
Fits V t idle = Unit {0}
Fits V t (parked n) = Owned V t n
Fits V t (puts n m) = Owned V t n
Fits V t (rests n m) = Unit {0}
Fits V t (takes m b) = Unit {0}

pub record Held (W : Way) (t : ℕ) (V : View) (E : Requests) : Type 0 where
  pub aux : W.Aux
  pub parcels : List ℕ
  pub shape : W.shape t V aux parcels
  pub each : (s : ℕ) → Each W t V aux (E s)
  -- the nodes of puts are the tray's, and no two puts have the same one
  pub fits : (s : ℕ) → Fits V t (E s)
  pub apart : (s r : ℕ) → s ≢ r → node (E s) ≡ node (E r) → node (E s) ≡ 0
