-- What holds of a stack, and of each request at it.
use Rattle.std.specs.Prelude.{◌≡◌, ℕ, zero, suc, ◌+◌, ◌*◌, ◌<◌, ◌≤◌, Bool, true, List}
use Rattle.kinds.specs.Views.{View, Owned}
use Rattle.kinds.proofs.Ways.{Way}
use Rattle.kinds.proofs.Distinct.{In}
use Rattle.kinds.proofs.Chains.{Chain}

-- g has the nodes that were ever linked
pub record Pile (t : ℕ) (V : View) (g : List ℕ) (xs : List ℕ) : Type 0 where
  pub tray : t < 32
  pub nodes : (m : ℕ) → In m g → Owned V t m
  pub chain : Chain (λ m. In m g) V (V.word (2 * t)) xs

-- The node of a put was never linked; once the put has read, the node leads on to what it found.
abbrev pub PutNoted : View → List ℕ → ℕ → ℕ → ℕ → Type 0
PutNoted V g n zero top = (In n g → ⊥) × (top ≤ V.taken)
PutNoted V g n (suc k) top = (In n g → ⊥) × (top ≤ V.taken) × (V.word (64 + n) ≡ top)

-- A take met an empty stack, or a linked node, whose next word and parcel stay.
abbrev pub Met : View → List ℕ → Bool → ℕ → ℕ → ℕ → Type 0
Met V g b zero next parcel = b ≡ true
Met V g b (suc n) next parcel = In (suc n) g × (V.word (64 + suc n) ≡ next) × (next ≤ V.taken) × (V.parcel (suc n) ≡ parcel)

abbrev pub TakeNoted : View → List ℕ → Bool → ℕ → ℕ → ℕ → ℕ → Type 0
TakeNoted V g b zero top next parcel = Unit {0}
TakeNoted V g b (suc k) top next parcel = Met V g b top next parcel

abbrev pub stack_way : Way
stack_way = record {
  Aux = List ℕ;
  shape = Pile;
  parked_put = λ t V g n. In n g → ⊥;
  put = λ t V g n m. PutNoted V g n m.stage m.one;
  take = λ t V g m b. TakeNoted V g b m.stage m.one m.two m.parcel;
  rest = λ t V g n m. Unit {0};
}
