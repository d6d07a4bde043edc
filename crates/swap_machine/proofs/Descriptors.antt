-- What a step leaves of the descriptors: their fields and owners, and whether they are published.
use Rattle.std.proofs.Common.{◌≡◌, refl, sym, ◌∙◌, ap, subst, true, false, ◌≢◌, ◌⊎◌, inl, inr, ℕ, arith}
use native.Mathlib.Decide.{ℕ_discrete}
use Rattle.swap_machine.specs.Update.{update}
use Rattle.swap_machine.specs.Machine.{Word, Outcome, fresh, failed, won, success, Fields, scanner, Memory, Position, idle, at_publish, Event, Ended, prepare, Cas, hit, miss, Act}
use Rattle.swap_machine.specs.Machine.{swap, start, meet_descriptor, meet_mark, publish_hit, publish_miss, read_open, read_closed, clean_descriptor, clean_mark, place_hit, place_miss, re_read_mark, re_read_other, fail_undecided, fail_failed, fail_won, fail_success, give_back_go, decide_wins, decide_won, decide_late, decide_ended, finish_first_go, finish_second_go, write_success_go, withdraw_go}
use Rattle.swap_machine.specs.Meaning.{taken}
use Rattle.swap_machine.specs.Invariant.{Live, Knows}
use Rattle.swap_machine.specs.Safety.{Untouched, Prepares}
use Rattle.swap_machine.proofs.Basics.{update_same, update_other}
use Rattle.swap_machine.proofs.Stable.{won_by_live}

-- no descriptor changes its fields or its owner
abbrev pub KeptAll : Memory → Memory → Type 0
KeptAll m m' = (m'.fields ≡ m.fields) × (m'.owner ≡ m.owner)

cas_kept : {m : Memory} {p : ℕ} {old new : Word} {m' : Memory} → Cas m p old new m' → KeptAll m m'
cas_kept (hit e) = (refl, refl)
cas_kept (miss e) = (refl, refl)

cas_live : {m : Memory} {p : ℕ} {old new : Word} {m' : Memory} (f : ℕ) → Cas m p old new m' → Live (m'.result f) → Live (m.result f)
cas_live f (hit e) l = l
cas_live f (miss e) l = l

live_update : (m : Memory) (d f : ℕ) (r : Outcome) → Live (m.result d) → Live (update m.result d r f) → Live (m.result f)
live_update m d f r k l = elim (ℕ_discrete f d) [ yes e ↦ subst (λ x. Live (m.result x)) (sym e) k | no n ↦ grind arith ]

-- scanner s prepares a swap
abbrev pub Starts : ℕ → Memory → Position → Memory → Position → Type 0
Starts s m c m' c' = (d : ℕ) × (o : Fields) × (c ≡ idle) × (c' ≡ at_publish d) × (m.result d ≡ fresh) × (m' ≡ prepare m s d o)

idle_not : (d : ℕ) → idle ≢ at_publish d
idle_not d q = grind arith

by_start : (s : ℕ) (m : Memory) (c c' : Position) (m' : Memory) (f : ℕ) → Starts s m c m' c' → Untouched m m' f ⊎ Prepares s m c m' c' f
by_start s m c c' m' f (d, o, e0, e1, fr, e2) =
    elim (ℕ_discrete f d) [
      | yes q ↦ inr (e0, e1 ∙ ap at_publish (sym q), subst (λ x. m.result x ≡ fresh) (sym q) fr, ap (λ n. n.owner f) e2 ∙ subst (λ x. update m.owner d (scanner s) x ≡ scanner s) (sym q) (update_same m.owner d (scanner s)))
      | no n ↦ inl (ap (λ x. x.fields f) e2 ∙ update_other m.fields d o f n, ap (λ x. x.owner f) e2 ∙ update_other m.owner d (scanner s) f n)
    ]

module _ {s : ℕ} {m : Memory} where
  -- fields and owners of descriptors stay, but where a swap is prepared
  pub descriptors : {c c' : Position} {e : Event} {m' : Memory} → Act s m c e m' c' → KeptAll m m' ⊎ Starts s m c m' c'
  descriptors (swap a x y e) = inl (refl, refl)
  descriptors (start d o f take) = inr (d, o, refl, refl, f, refl)
  descriptors (meet_descriptor a d e) = inl (refl, refl)
  descriptors (meet_mark a d t e) = inl (refl, refl)
  descriptors (publish_hit e) = inl (refl, refl)
  descriptors (publish_miss e) = inl (refl, refl)
  descriptors (read_open h) = inl (refl, refl)
  descriptors (read_closed h) = inl (refl, refl)
  descriptors (clean_descriptor cas) = inl (cas_kept cas)
  descriptors (clean_mark cas) = inl (cas_kept cas)
  descriptors (place_hit e) = inl (refl, refl)
  descriptors (place_miss e) = inl (refl, refl)
  descriptors (re_read_mark t e) = inl (refl, refl)
  descriptors (re_read_other h) = inl (refl, refl)
  descriptors (fail_undecided e) = inl (refl, refl)
  descriptors (fail_failed e) = inl (refl, refl)
  descriptors (fail_won r e) = inl (refl, refl)
  descriptors (fail_success e) = inl (refl, refl)
  descriptors (give_back_go cas) = inl (cas_kept cas)
  descriptors (decide_wins e) = inl (refl, refl)
  descriptors (decide_won r e) = inl (refl, refl)
  descriptors (decide_late ok e) = inl (refl, refl)
  descriptors (decide_ended ok e) = inl (refl, refl)
  descriptors (finish_first_go cas) = inl (cas_kept cas)
  descriptors (finish_second_go cas) = inl (cas_kept cas)
  descriptors write_success_go = inl (refl, refl)
  descriptors (withdraw_go cas) = inl (cas_kept cas)

  pub descriptors_kept : {c c' : Position} {e : Event} {m' : Memory} → Act s m c e m' c' → (c ≢ idle) ⊎ (c' ≡ idle) → KeptAll m m'
  descriptors_kept a n =
      elim (descriptors a) [
        | inl k ↦ k
        | inr st ↦ elim n [ inl h ↦ absurd (h st.2) | inr h ↦ let q = st.3 in absurd (idle_not _ (sym h ∙ q)) ]
      ]

  pub prepared : {c c' : Position} {e : Event} {m' : Memory} (f : ℕ) → Act s m c e m' c' → Untouched m m' f ⊎ Prepares s m c m' c' f
  prepared {c = c} {c' = c'} {m' = m'} f a =
      elim (descriptors a) [
        | inl k ↦ inl (ap (λ g. g f) k.0, ap (λ g. g f) k.1)
        | inr st ↦ by_start s m c c' m' f st
      ]

  -- only its owner publishes a descriptor
  pub live_before : {c c' : Position} {e : Event} {m' : Memory} (f : ℕ) → Act s m c e m' c' → Knows m s c → Live (m'.result f) → Live (m.result f) ⊎ ((m.owner f ≡ scanner s) × (c ≡ at_publish f))
  live_before f (swap a x y e) k l = inl l
  live_before f (start d o g take) k l = inl l
  live_before f (meet_descriptor a d e) k l = inl l
  live_before f (meet_mark a d t e) k l = inl l
  live_before f (publish_hit {d} e) k l =
      elim (ℕ_discrete f d) [
        | yes q ↦ inr (subst (λ x. m.owner x ≡ scanner s) (sym q) k.1, ap at_publish (sym q))
        | no n ↦ inl (grind arith)
      ]
  live_before f (publish_miss e) k l = inl l
  live_before f (read_open h) k l = inl l
  live_before f (read_closed h) k l = inl l
  live_before f (clean_descriptor cas) k l = inl (cas_live f cas l)
  live_before f (clean_mark cas) k l = inl (cas_live f cas l)
  live_before f (place_hit e) k l = inl l
  live_before f (place_miss e) k l = inl l
  live_before f (re_read_mark t e) k l = inl l
  live_before f (re_read_other h) k l = inl l
  live_before f (fail_undecided {d} e) k l = inl (live_update m d f failed k l)
  live_before f (fail_failed e) k l = inl l
  live_before f (fail_won r e) k l = inl l
  live_before f (fail_success e) k l = inl l
  live_before f (give_back_go cas) k l = inl (cas_live f cas l)
  live_before f (decide_wins {d} {t = w} e) k l = inl (live_update m d f (won w) k.0 l)
  live_before f (decide_won r e) k l = inl l
  live_before f (decide_late ok e) k l = inl l
  live_before f (decide_ended ok e) k l = inl l
  live_before f (finish_first_go cas) k l = inl (cas_live f cas l)
  live_before f (finish_second_go cas) k l = inl (cas_live f cas l)
  live_before f (write_success_go {d} {t = r}) k l = inl (live_update m d f success (won_by_live r _ k.0) l)
  live_before f (withdraw_go cas) k l = inl (cas_live f cas l)

pub ended_failed : (r : Outcome) → Ended false r → taken r ≡ 0
ended_failed r e = grind arith

pub ended_success : (r : Outcome) → Ended true r → taken r ≡ 1
ended_success r e = grind arith
