-- Runs: the invariant holds all along, and the number of decisions of a descriptor follows its result.
use Rattle.std.proofs.Common.{◌≡◌, refl, sym, ◌∙◌, ap, subst, List, ℕ, ◌+◌, zero-add, arith}
use native.Mathlib.Decide.{ℕ_discrete}
use Rattle.swap_machine.specs.Machine.{Outcome, Memory, State, Event, silent, swapped, decided, first_failed, answers, Closed}
use Rattle.swap_machine.specs.Meaning.{taken, Says}
use Rattle.swap_machine.specs.Invariant.{Invariant}
use Rattle.swap_machine.specs.Safety.{Later, same, publishes, fails, wins, finishes, Initial, Run, begin, then, is_decision, decisions}
use Rattle.swap_machine.proofs.Steps.{initially, kept, uncounted, good}

pub holds : (σ : State) (h : List Event) (τ : State) → Invariant σ → Run σ h τ → Invariant τ
holds σ _ _ inv begin = inv
holds σ _ υ inv (then {h = h} {τ = τ} {e = e} r st) = kept τ υ e (holds σ h τ inv r) st

-- one step counts as the result goes
counted : (d : ℕ) (e : Event) (m m' : Memory) → Says e m m' → Later e d (m.result d) (m'.result d) → taken (m'.result d) ≡ is_decision d e + taken (m.result d)
counted d silent m m' s l = uncounted (λ q. grind arith) l ∙ sym (zero-add _)
counted d (swapped a x y) m m' s l = uncounted (λ q. grind arith) l ∙ sym (zero-add _)
counted d (first_failed f) m m' s l = uncounted (λ q. grind arith) l ∙ sym (zero-add _)
counted d (answers f ok) m m' s l = uncounted (λ q. grind arith) l ∙ sym (zero-add _)
counted d (decided f) m m' s l =
    elim (ℕ_discrete f d) [
      | yes e ↦ let b = ap taken s.before in let a = s.after in subst (λ g. taken (m'.result g) ≡ is_decision g (decided f) + taken (m.result g)) e (grind arith)
      | no h ↦ let u = uncounted (λ q. h (cc)) l in grind arith
    ]

pub once : (σ : State) (h : List Event) (τ : State) → Initial σ → Run σ h τ → (d : ℕ) → decisions d h ≡ taken (τ.memory.result d)
once σ _ _ i begin d = rw (i.all_fresh d) refl
once σ _ υ i (then {h = h} {τ = τ} {e = e} r st) d =
    let g = good τ υ e (holds σ h τ (initially σ i) r) st in
    let ih = once σ h τ i r d in
    let c = counted d e τ.memory υ.memory g.says (g.later d) in
    omega arith

-- a final result stays
pub later_final : {e : Event} {d : ℕ} {r q : Outcome} → Later e d r q → Closed r → q ≡ r
later_final same c = refl
later_final publishes c = absurd c
later_final fails c = absurd c
later_final (wins _) c = absurd c
later_final finishes c = absurd c

pub final : (σ : State) (h : List Event) (τ : State) → Invariant σ → Run σ h τ → (d : ℕ) → Closed (σ.memory.result d) → (τ.memory.result d ≡ σ.memory.result d) × (decisions d h ≡ 0)
final σ _ _ inv begin d c = (refl, refl)
final σ _ υ inv (then {h = h} {τ = τ} {e = e} r st) d c =
    let g = good τ υ e (holds σ h τ inv r) st in
    let ih = final σ h τ inv r d c in
    let same_result = later_final (g.later d) (subst Closed (sym ih.0) c) in
    let n = counted d e τ.memory υ.memory g.says (g.later d) in
    let t = ap taken same_result in
    let none = ih.1 in
    (same_result ∙ ih.0, omega arith)
