-- What is known of a descriptor that is not published, of one that is undecided, and once an own run or a help has ended.
use Rattle.std.proofs.Common.{◌≡◌, refl, sym, ◌∙◌, ap, subst, Bool, true, false, ◌≢◌, List, ℕ, arith}
use Rattle.swap_machine.specs.Machine.{Outcome, fresh, undecided, failed, success, Owner, nobody, scanner, Memory, State, Event, first_failed, answers, Step, act, Closed, Ended}
use Rattle.swap_machine.specs.Machine.{Position, at_publish}
use Rattle.swap_machine.specs.Positions.{Of, Deciding}
use Rattle.swap_machine.specs.Meaning.{taken}
use Rattle.swap_machine.specs.Invariant.{Live, Has, Knows, Required, Invariant}
use Rattle.swap_machine.specs.Safety.{Initial, Run, decisions, Unmet, SwappedOnce, NeverSwapped, NotBegun}
use Rattle.swap_machine.proofs.Basics.{update_all}
use Rattle.swap_machine.proofs.Runs.{nothing_written}
use Rattle.swap_machine.proofs.Steps.{initially, kept, good}
use Rattle.swap_machine.proofs.Counting.{holds, once, final}

-- whoever is at work on an unpublished descriptor is about to publish it
only_owner : (m : Memory) (s d : ℕ) (c : Position) → m.result d ≡ fresh → Knows m s c → Of d c → (c ≡ at_publish d) × (m.owner d ≡ scanner s)
only_owner m s d c f k o = grind arith

has_owner : (o : Owner) → Has o → (s : ℕ) × (o ≡ scanner s)
has_owner nobody h = absurd h
has_owner (scanner s) h = (s, refl)

pub owner_at_work : (σ : State) → Invariant σ → (d : ℕ) → σ.memory.result d ≡ undecided → (s : ℕ) × (σ.memory.owner d ≡ scanner s) × Deciding d (σ.at s)
owner_at_work σ inv d u =
    let o = has_owner (σ.memory.owner d) (inv.owned d (subst Live (sym u) tt)) in
    (o.0, o.1, (subst (Required σ.memory o.0 (σ.at o.0) d) u (inv.required o.0 d)).1 o.1)

pub unmet : (σ : State) → Invariant σ → (d : ℕ) → σ.memory.result d ≡ fresh → Unmet σ d
unmet σ inv d f =
    record {
      no_descriptor = λ a q. let p = inv.sound.in_place a in grind arith;
      no_mark = λ a s q. let p = inv.sound.in_place a in grind arith;
      only_owner = λ s o. only_owner σ.memory s d (σ.at s) f (inv.knows s) o;
    }

is_success : (r : Outcome) → Ended true r → r ≡ success
is_success r e = grind arith

is_failed : (r : Outcome) → Ended false r → r ≡ failed
is_failed r e = grind arith

ended_closed : (ok : Bool) (r : Outcome) → Ended ok r → Closed r
ended_closed ok r e = grind arith

-- an answer changes no result, and after it d is not decided
module _ (σ : State) (h : List Event) (τ υ : State) (i : Initial σ) (run : Run σ h τ) (d : ℕ) where
  abbrev before : Invariant τ
  before = holds σ h τ (initially σ i) run

  module _ (ok : Bool) (st : Step τ (answers d ok) υ) where
    ended : Ended ok (υ.memory.result d)
    ended = (good τ υ (answers d ok) before st).says.1

    counted_before : decisions d h ≡ taken (υ.memory.result d)
    counted_before = once σ h τ i run d ∙ sym ((good τ υ (answers d ok) before st).not_taken d (λ q. grind arith))

    counted_after : (g : List Event) (ω : State) → Run υ g ω → decisions d g ≡ 0
    counted_after g ω r = (final υ g ω (kept τ υ (answers d ok) before st) r d (ended_closed ok _ ended)).1

  pub succeeds : Step τ (answers d true) υ → SwappedOnce h υ d
  succeeds st =
      let r = is_success _ (ended true st) in
      record { result = r; before = counted_before true st ∙ ap taken r; after = counted_after true st }

  pub second_fails : Step τ (answers d false) υ → NeverSwapped h υ d
  second_fails st =
      let r = is_failed _ (ended false st) in
      record { result = r; before = counted_before false st ∙ ap taken r; after = counted_after false st }

-- but for s, which is about to publish d, nobody is at work on d
left : (τ : State) → Invariant τ → (d : ℕ) → τ.memory.result d ≡ fresh → (s : ℕ) → τ.at s ≡ at_publish d → (t : ℕ) → t ≢ s → ¬ Of d (τ.at t)
left τ inv d f s q t n o =
    let p = (only_owner τ.memory t d (τ.at t) f (inv.knows t) o).1 in
    let k = (subst (Knows τ.memory s) q (inv.knows s)).1 in
    n (cc)

nobody_at_work : (τ υ : State) → Invariant τ → (d : ℕ) → τ.memory.result d ≡ fresh → Step τ (first_failed d) υ → (t : ℕ) → ¬ Of d (υ.at t)
nobody_at_work τ υ inv d f (act s {c = c} a) =
    let p = nothing_written d a in
    update_all (λ t x. ¬ Of d x) τ.at s c (λ o. subst (Of d) p.1 o) (left τ inv d f s p.0)

same_memory : (τ υ : State) (d : ℕ) → Step τ (first_failed d) υ → υ.memory ≡ τ.memory
same_memory τ υ d (act s a) = (nothing_written d a).2

pub first_fails : (σ : State) (h : List Event) (τ υ : State) → Initial σ → Run σ h τ → (d : ℕ) → Step τ (first_failed d) υ → NotBegun h υ d
first_fails σ h τ υ i run d st =
    let inv = holds σ h τ (initially σ i) run in
    let fresh_after = (good τ υ (first_failed d) inv st).says.1 in
    let fresh_before = ap (λ m. m.result d) (sym (same_memory τ υ d st)) ∙ fresh_after in
    record {
      result = fresh_after;
      before = once σ h τ i run d ∙ ap taken fresh_before;
      unmet = unmet υ (kept τ υ (first_failed d) inv st) d fresh_after;
      nobody_at_work = nobody_at_work τ υ inv d fresh_before st;
    }
