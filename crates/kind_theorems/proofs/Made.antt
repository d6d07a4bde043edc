-- A view and requests after an act always exist.
use mathlib.Core.Path.{refl, ap}
use mathlib.Core.Bool.{cond}
use Prim.Native.Nat.{ℕ}
use lib.Dec.{eqb}
use borrow.Author.Tests.{eq-eqb, ne_eqb}
use Rattle.kinds.specs.Views.{View, Same, Wrote}
use Rattle.kinds.specs.Plans.{Slot, Requests, Turns}

pub written : View → ℕ → ℕ → View
written V a w = record { word = λ b. cond (eqb b a) w (V.word b); parcel = V.parcel; own = V.own; taken = V.taken; few = V.few }

pub wrote : (V : View) (a w : ℕ) → Wrote V (written V a w) a w
unfolding written
wrote V a w = record {
  here = ap (λ c. cond c w (V.word a)) (eq-eqb a a refl);
  there = λ b ne. ap (λ c. cond c w (V.word b)) (ne_eqb b a ne);
  nodes = record { parcels = λ n. refl; owns = λ n. refl; taken = refl };
}

pub turned : Requests → ℕ → Slot → Requests
turned E s e r = cond (eqb r s) e (E r)

pub turns : (E : Requests) (s : ℕ) (e : Slot) → Turns E (turned E s e) s e
unfolding turned
turns E s e = record {
  here = ap (λ c. cond c e (E s)) (eq-eqb s s refl);
  there = λ r ne. ap (λ c. cond c e (E r)) (ne_eqb r s ne);
}

pub same : (V : View) → Same V V
same V = record { words = λ a. refl; nodes = record { parcels = λ n. refl; owns = λ n. refl; taken = refl } }
