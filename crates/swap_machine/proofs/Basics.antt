-- Updates, and what a later result keeps.
use Rattle.std.proofs.Common.{◌≡◌, refl, sym, subst, Bool, ◌≢◌, ℕ, arith}
use native.Mathlib.Decide.{ℕ_discrete}
use Rattle.swap_machine.specs.Update.{update}
use Rattle.swap_machine.specs.Machine.{Outcome, undecided, Event, Closed, Ended}
use Rattle.swap_machine.specs.Invariant.{Live, WonBy}
use Rattle.swap_machine.specs.Safety.{Later, same, publishes, fails, wins, finishes}

pub update_same : {A : Type 0} (f : ℕ → A) (k : ℕ) (v : A) → update f k v k ≡ v
update_same f k v = grind arith

pub update_other : {A : Type 0} (f : ℕ → A) (k : ℕ) (v : A) (x : ℕ) → x ≢ k → update f k v x ≡ f x
update_other f k v x h = grind arith

-- what holds at k of v, and elsewhere of f, holds everywhere of the update
pub update_all : {A : Type 0} (P : ℕ → A → Type 0) (f : ℕ → A) (k : ℕ) (v : A) → P k v → ((x : ℕ) → x ≢ k → P x (f x)) → (x : ℕ) → P x (update f k v x)
update_all {A} P f k v here there x =
    elim (ℕ_discrete x k) [
      | yes e ↦ subst (λ y. P y (update f k v y)) (sym e) (subst (P k) (sym (update_same f k v)) here)
      | no h ↦ subst (P x) (sym (update_other f k v x h)) (there x h)
    ]

module _ {e : Event} {d : ℕ} where
  pub later_live : {r q : Outcome} → Later e d r q → Live r → Live q
  later_live same l = l
  later_live publishes l = tt
  later_live fails l = tt
  later_live (wins _) l = tt
  later_live finishes l = tt

  pub later_closed : {r q : Outcome} → Later e d r q → Closed r → Closed q
  later_closed same l = l
  later_closed publishes l = l
  later_closed fails l = tt
  later_closed (wins _) l = absurd l
  later_closed finishes l = absurd l

  pub later_ended : {r q : Outcome} (b : Bool) → Later e d r q → Ended b r → Ended b q
  later_ended b same l = l
  later_ended b publishes l = l
  later_ended b fails l = absurd l
  later_ended b (wins _) l = absurd l
  later_ended b finishes l = absurd l

  pub later_won_by : {r q : Outcome} (s : ℕ) → Later e d r q → WonBy s r → WonBy s q
  later_won_by s same l = l
  later_won_by s publishes l = l
  later_won_by s fails l = absurd l
  later_won_by s (wins _) l = absurd l
  later_won_by s finishes l = tt

  pub later_undecided : {r q : Outcome} → Later e d r q → Live r → q ≡ undecided → r ≡ undecided
  later_undecided same l u = u
  later_undecided publishes l u = absurd l
  later_undecided fails l u = refl
  later_undecided (wins _) l u = refl
  later_undecided finishes l u = grind arith
