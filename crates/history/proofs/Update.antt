-- Functions that differ in one place.
use Rattle.std.proofs.Common.{◌≡◌, refl, sym, ap, subst, ◌≢◌, cond, ℕ, eq-eqb, ne_eqb}
use native.Mathlib.Decide.{ℕ_discrete}
use Rattle.history.specs.Update.{update}

pub update_same : {A : Type 0} (f : ℕ → A) (k : ℕ) (v : A) → update f k v k ≡ v
update_same f k v = ap (λ c. cond c v (f k)) (eq-eqb k k refl)

pub update_other : {A : Type 0} (f : ℕ → A) (k : ℕ) (v : A) (x : ℕ) → x ≢ k → update f k v x ≡ f x
update_other f k v x h = ap (λ c. cond c v (f x)) (ne_eqb x k h)

-- what holds at k and elsewhere holds everywhere
pub update_all : {A : Type 0} (Q : ℕ → A → Type 0) (f : ℕ → A) (k : ℕ) (v : A) → Q k v → ((x : ℕ) → x ≢ k → Q x (f x)) → (x : ℕ) → Q x (update f k v x)
update_all {A} Q f k v here there x =
    elim (ℕ_discrete x k) [
      | yes e ↦ subst (λ y. Q y (update f k v y)) (sym e) (subst (Q k) (sym (update_same f k v)) here)
      | no h ↦ subst (Q x) (sym (update_other f k v x h)) (there x h)
    ]
