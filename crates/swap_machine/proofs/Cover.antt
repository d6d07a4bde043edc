-- The steps leave no case out: wherever a scanner stands in a swap, it can take one of them.
use Rattle.std.proofs.Common.{◌≡◌, refl, sym, ◌∙◌, ap, subst, Bool, true, false, ◌≢◌, ◌⊎◌, inl, inr, ℕ, arith}
use native.Mathlib.Decide.{ℕ_discrete}
use Rattle.swap_machine.specs.Machine.{Word, plain, descriptor, mark, Outcome, fresh, undecided, failed, won, success, Memory, Via, via_descriptor, via_mark, Position, idle, at_publish, at_read_result, at_clean, at_place_mark, at_re_read, at_try_fail, at_give_back, at_decide, at_finish_first, at_finish_second, at_write_success, at_withdraw, Closed, Ended, write, Event, Cas, hit, miss, Act}
use Rattle.swap_machine.specs.Machine.{publish_hit, publish_miss, read_open, read_closed, clean_descriptor, clean_mark, place_hit, place_miss, re_read_mark, re_read_other, fail_undecided, fail_failed, fail_won, fail_success, give_back_go, decide_wins, decide_won, decide_late, decide_ended, finish_first_go, finish_second_go, write_success_go, withdraw_go}
use Rattle.swap_machine.specs.Invariant.{Live, Knows}

pub plain_dec : (w : Word) (n : ℕ) → Dec (w ≡ plain n)
plain_dec (plain k) n = elim (ℕ_discrete k n) [ yes e ↦ yes (ap plain e) | no h ↦ no (λ e. h (cc)) ]
plain_dec (descriptor d) n = no (λ e. grind arith)
plain_dec (mark d s) n = no (λ e. grind arith)

pub descriptor_dec : (w : Word) (d : ℕ) → Dec (w ≡ descriptor d)
descriptor_dec (plain k) d = no (λ e. grind arith)
descriptor_dec (descriptor f) d = elim (ℕ_discrete f d) [ yes e ↦ yes (ap descriptor e) | no h ↦ no (λ e. h (cc)) ]
descriptor_dec (mark f s) d = no (λ e. grind arith)

-- a mark of d, or none
pub mark_of : (w : Word) (d : ℕ) → ((t : ℕ) × (w ≡ mark d t)) ⊎ ((t : ℕ) → w ≢ mark d t)
mark_of (plain k) d = inr (λ t e. grind arith)
mark_of (descriptor f) d = inr (λ t e. grind arith)
mark_of (mark f s) d = elim (ℕ_discrete f d) [ yes e ↦ inl (s, ap (λ x. mark x s) e) | no h ↦ inr (λ t e. h (cc)) ]

pub mark_dec : (w : Word) (d t : ℕ) → Dec (w ≡ mark d t)
mark_dec w d t =
    elim (mark_of w d) [
      | inl p ↦ elim (ℕ_discrete p.0 t) [ yes e ↦ yes (p.1 ∙ ap (mark d) e) | no h ↦ no (λ e. let q = p.1 in h (cc)) ]
      | inr h ↦ no (h t)
    ]

pub cas : (m : Memory) (p : ℕ) (old new : Word) → Dec (m.word p ≡ old) → (m' : Memory) × Cas m p old new m'
cas m p old new (yes e) = (write m p new, hit e)
cas m p old new (no h) = (m, miss h)

module _ (m : Memory) (s : ℕ) where
  abbrev Next : Position → Type 0
  Next c = (e : Event) × (m' : Memory) × (c' : Position) × Act s m c e m' c'

  cas_first : (d n : ℕ) → (m' : Memory) × Cas m (m.fields d).p1 (descriptor d) (plain n) m'
  cas_first d n = cas m _ _ _ (descriptor_dec _ d)

  cas_second : (d t n : ℕ) → (m' : Memory) × Cas m (m.fields d).p2 (mark d t) (plain n) m'
  cas_second d t n = cas m _ _ _ (mark_dec _ d t)

  from_read_result : (d : ℕ) (v : Via) (r : Outcome) → m.result d ≡ r → Next (at_read_result d v)
  from_read_result d v fresh e = (_, _, _, read_open (λ c. subst Closed e c))
  from_read_result d v undecided e = (_, _, _, read_open (λ c. subst Closed e c))
  from_read_result d v failed e = (_, _, _, read_closed (subst Closed (sym e) tt))
  from_read_result d v (won t) e = (_, _, _, read_open (λ c. subst Closed e c))
  from_read_result d v success e = (_, _, _, read_closed (subst Closed (sym e) tt))

  from_try_fail : (d : ℕ) (own : Bool) (r : Outcome) → m.result d ≡ r → Live r → Next (at_try_fail d own)
  from_try_fail d own fresh e l = absurd l
  from_try_fail d own undecided e l = (_, _, _, fail_undecided e)
  from_try_fail d own failed e l = (_, _, _, fail_failed e)
  from_try_fail d own (won t) e l = (_, _, _, fail_won t e)
  from_try_fail d own success e l = (_, _, _, fail_success (subst (Ended true) (sym e) refl))

  from_ended : (d : ℕ) (own : Bool) (t : ℕ) (placed ok : Bool) → Ended ok (m.result d) → Next (at_decide d own t placed)
  from_ended d own t true ok e = (_, _, _, decide_late ok e)
  from_ended d own t false ok e = (_, _, _, decide_ended ok e)

  from_decide : (d : ℕ) (own : Bool) (t : ℕ) (placed : Bool) (r : Outcome) → m.result d ≡ r → Live r → Next (at_decide d own t placed)
  from_decide d own t placed fresh e l = absurd l
  from_decide d own t placed undecided e l = (_, _, _, decide_wins e)
  from_decide d own t placed failed e l = from_ended d own t placed false (subst (Ended false) (sym e) refl)
  from_decide d own t placed (won x) e l = (_, _, _, decide_won x e)
  from_decide d own t placed success e l = from_ended d own t placed true (subst (Ended true) (sym e) refl)

  pub cover : (c : Position) → Knows m s c → c ≢ idle → Next c
  cover idle k h = absurd (h refl)
  cover (at_publish d) k h = elim (plain_dec (m.word (m.fields d).p1) (m.fields d).o1) [ yes e ↦ (_, _, _, publish_hit e) | no n ↦ (_, _, _, publish_miss n) ]
  cover (at_read_result d v) k h = from_read_result d v (m.result d) refl
  cover (at_clean d via_descriptor) k h = (_, _, _, clean_descriptor (cas_first d _).1)
  cover (at_clean d (via_mark t)) k h = (_, _, _, clean_mark (cas_second d t _).1)
  cover (at_place_mark d own) k h = elim (plain_dec (m.word (m.fields d).p2) (m.fields d).o2) [ yes e ↦ (_, _, _, place_hit e) | no n ↦ (_, _, _, place_miss n) ]
  cover (at_re_read d own) k h = elim (mark_of (m.word (m.fields d).p2) d) [ inl p ↦ (_, _, _, re_read_mark p.0 p.1) | inr n ↦ (_, _, _, re_read_other n) ]
  cover (at_try_fail d own) k h = from_try_fail d own (m.result d) refl k
  cover (at_give_back d own) k h = (_, _, _, give_back_go (cas_first d _).1)
  cover (at_decide d own t placed) k h = from_decide d own t placed (m.result d) refl k.0
  cover (at_finish_first d own r) k h = (_, _, _, finish_first_go (cas_first d _).1)
  cover (at_finish_second d own r) k h = (_, _, _, finish_second_go (cas_second d r _).1)
  cover (at_write_success d own r) k h = (_, _, _, write_success_go)
  cover (at_withdraw d own ok) k h = (_, _, _, withdraw_go (cas_second d s _).1)
