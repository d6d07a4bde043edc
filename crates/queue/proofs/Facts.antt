-- What holds of a queue, and of each request at it.
use Rattle.std.specs.Prelude.{◌≡◌, ℕ, zero, suc, ◌+◌, ◌*◌, ◌<◌, ◌≤◌, Bool, true, ◌≢◌, ◌⊎◌, List, ◌∷◌, refl}
use Rattle.kinds.specs.Views.{View, Owned}
use Rattle.kinds.proofs.Ways.{Way}
use Rattle.kinds.proofs.Chains.{Chain}
use Rattle.queue.proofs.Leads.{Leads, next_owned}

pub record Line (t : ℕ) (V : View) (g : Unit {0}) (xs : List ℕ) : Type 0 where
  pub tray : t < 32
  -- what stands in the leading node
  pub lead : ℕ
  pub chain : Chain (Owned V t) V (V.word (2 * t)) (lead ∷ xs)
  -- tail's node is the last or the one before it
  pub tail : Leads V t (V.word (2 * t)) (V.word (2 * t + 1))
  pub lag : (V.word (64 + V.word (2 * t + 1)) ≡ 0) ⊎ (V.word (64 + V.word (64 + V.word (2 * t + 1))) ≡ 0)

-- What was read as the next word of x, unless it was nil, still is; where it was nil, Q holds.
abbrev pub NextNoted : View → ℕ → ℕ → ℕ → Type 0 → Type 0
NextNoted V t x zero Q = Q
NextNoted V t x (suc y) Q = (V.word (64 + x) ≡ suc y) × Owned V t (suc y)

-- The parcel that was noted with y is y's.
abbrev pub ParcelNoted : View → ℕ → ℕ → Type 0
ParcelNoted V zero p = Unit {0}
ParcelNoted V (suc y) p = V.parcel (suc y) ≡ p

-- x was the tail, and the next word there was y
abbrev pub PutNoted : View → ℕ → ℕ → ℕ → ℕ → Type 0
PutNoted V t zero x y = x ≤ V.taken
PutNoted V t (suc zero) x y = Owned V t x × Leads V t x (V.word (2 * t + 1))
PutNoted V t (suc (suc k)) x y = Owned V t x × Leads V t x (V.word (2 * t + 1)) × NextNoted V t x y (Unit {0})

-- x was the head, then z the tail, and then y the next word of x, in whose node was the parcel p
abbrev pub TailNoted : View → ℕ → ℕ → ℕ → Type 0
TailNoted V t x z = V.word (2 * t) ≡ x → x ≢ z → V.word (2 * t + 1) ≢ x

abbrev pub TakeNoted : View → ℕ → ℕ → ℕ → ℕ → ℕ → ℕ → Bool → Type 0
TakeNoted V t zero x z y p b = x ≤ V.taken
TakeNoted V t (suc zero) x z y p b = Owned V t x × Leads V t x (V.word (2 * t))
TakeNoted V t (suc (suc zero)) x z y p b = Owned V t x × Leads V t x (V.word (2 * t)) × TailNoted V t x z
TakeNoted V t (suc (suc (suc k))) x z y p b = Owned V t x × Leads V t x (V.word (2 * t)) × TailNoted V t x z × NextNoted V t x y (b ≡ true) × ParcelNoted V y p

-- A put's node is nowhere in the queue, and its next word is nil.
pub record Apart (V : View) (t n : ℕ) : Type 0 where
  pub off : Leads V t (V.word (2 * t)) n → ⊥
  pub blank : V.word (64 + n) ≡ 0

-- where a put's node was linked
pub record Linked (V : View) (t n x : ℕ) : Type 0 where
  pub behind : Owned V t x
  pub owned : Owned V t n
  pub next : V.word (64 + x) ≡ n

abbrev pub queue_way : Way
queue_way = record {
  Aux = Unit {0};
  shape = Line;
  parked_put = λ t V g n. Apart V t n;
  put = λ t V g n m. Apart V t n × PutNoted V t m.stage m.one m.two;
  take = λ t V g m b. TakeNoted V t m.stage m.one m.two m.three m.parcel b;
  rest = λ t V g n m. Linked V t n m.one;
}

-- A next word as it is now.
pub next_noted : (V : View) (t : ℕ) {x b : ℕ} (p : ℕ) (ps : List ℕ) (y : ℕ) (Q : Type 0) → Leads V t x b → Chain (Owned V t) V b (p ∷ ps) → V.word (64 + x) ≡ y → (y ≡ 0 → Q) → NextNoted V t x y Q
next_noted V t p ps zero Q r c e q = q refl
next_noted V t p ps (suc y) Q r c e q = (e, next_owned V t p ps y r c e)
