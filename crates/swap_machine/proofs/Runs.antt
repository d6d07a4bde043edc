-- The course of a run, step by step: an own run stays one, a help stays a help, and how each ends.
use Rattle.std.proofs.Common.{◌≡◌, refl, ap, Bool, true, false, ◌≢◌, ◌⊎◌, inl, inr, ℕ, arith}
use Rattle.swap_machine.specs.Machine.{Memory, Position, idle, at_publish, Event, swapped, first_failed, answers, Act}
use Rattle.swap_machine.specs.Machine.{swap, start, meet_descriptor, meet_mark, publish_hit, publish_miss, read_open, read_closed, clean_descriptor, clean_mark, place_hit, place_miss, re_read_mark, re_read_other, fail_undecided, fail_failed, fail_won, fail_success, give_back_go, decide_wins, decide_won, decide_late, decide_ended, finish_first_go, finish_second_go, write_success_go, withdraw_go}
use Rattle.swap_machine.specs.Positions.{Of, Own, Helping, Deciding}

-- who decides in its own run is in no other run, and in no help
pub deciding_own : (d e : ℕ) (c : Position) → Deciding d c → Own e c → e ≡ d
deciding_own d e c x y = grind arith

pub deciding_helping : (d : ℕ) (c : Position) → Deciding d c → Helping c → ⊥
deciding_helping d c x y = grind arith

module _ {s : ℕ} {m : Memory} where
  pub helping_on : {c c' : Position} {e : Event} {m' : Memory} → Act s m c e m' c' → c ≢ idle → Helping c → Helping c'
  helping_on (swap a x y e) n k = tt
  helping_on (start d o f take) n k = absurd (n refl)
  helping_on (meet_descriptor a d e) n k = tt
  helping_on (meet_mark a d t e) n k = tt
  helping_on (publish_hit e) n k = absurd k
  helping_on (publish_miss e) n k = tt
  helping_on (read_open h) n k = refl
  helping_on (read_closed h) n k = tt
  helping_on (clean_descriptor cas) n k = tt
  helping_on (clean_mark cas) n k = tt
  helping_on (place_hit e) n k = k
  helping_on (place_miss e) n k = k
  helping_on (re_read_mark t e) n k = k
  helping_on (re_read_other h) n k = k
  helping_on (fail_undecided e) n k = k
  helping_on (fail_failed e) n k = k
  helping_on (fail_won r e) n k = k
  helping_on (fail_success e) n k = tt
  helping_on (give_back_go cas) n k = tt
  helping_on (decide_wins e) n k = k
  helping_on (decide_won r e) n k = k
  helping_on (decide_late ok e) n k = k
  helping_on (decide_ended ok e) n k = tt
  helping_on (finish_first_go cas) n k = k
  helping_on (finish_second_go cas) n k = k
  helping_on write_success_go n k = tt
  helping_on (withdraw_go cas) n k = tt

  pub own_on : (g : ℕ) {c c' : Position} {e : Event} {m' : Memory} → Act s m c e m' c' → c' ≢ idle → Own g c → Own g c'
  own_on g (swap a x y e) n k = k
  own_on g (start d o f take) n k = absurd k
  own_on g (meet_descriptor a d e) n k = k
  own_on g (meet_mark a d t e) n k = k
  own_on g (publish_hit e) n k = (k, refl)
  own_on g (publish_miss e) n k = absurd (n refl)
  own_on g (read_open h) n k = absurd k
  own_on g (read_closed h) n k = k
  own_on g (clean_descriptor cas) n k = k
  own_on g (clean_mark cas) n k = k
  own_on g (place_hit e) n k = k
  own_on g (place_miss e) n k = k
  own_on g (re_read_mark t e) n k = k
  own_on g (re_read_other h) n k = k
  own_on g (fail_undecided e) n k = k
  own_on g (fail_failed e) n k = k
  own_on g (fail_won r e) n k = k
  own_on g (fail_success e) n k = absurd (n refl)
  own_on g (give_back_go cas) n k = absurd (n refl)
  own_on g (decide_wins e) n k = k
  own_on g (decide_won r e) n k = k
  own_on g (decide_late ok e) n k = k
  own_on g (decide_ended ok e) n k = absurd (n refl)
  own_on g (finish_first_go cas) n k = k
  own_on g (finish_second_go cas) n k = k
  own_on g write_success_go n k = absurd (n refl)
  own_on g (withdraw_go cas) n k = absurd (n refl)

  -- a plain swap is not part of a run
  pub no_swap : (a x y : ℕ) {c c' : Position} {m' : Memory} → Act s m c (swapped a x y) m' c' → (c ≡ idle) × (c' ≡ idle)
  no_swap a x y (swap _ _ _ e) = (refl, refl)

  -- an own run ends with a first failure, or with an answer
  pub own_ends : (d : ℕ) {c : Position} {e : Event} {m' : Memory} → Act s m c e m' idle → Own d c → (e ≡ first_failed d) ⊎ ((ok : Bool) × (e ≡ answers d ok))
  own_ends d (swap a x y e) k = absurd k
  own_ends d (publish_miss e) k = inl (ap first_failed k)
  own_ends d (clean_descriptor cas) k = absurd k
  own_ends d (clean_mark cas) k = absurd k
  own_ends d (fail_success e) k = inr (true, ap (λ x. answers x true) k.0)
  own_ends d (give_back_go cas) k = inr (false, ap (λ x. answers x false) k.0)
  own_ends d (decide_ended ok e) k = inr (ok, ap (λ x. answers x ok) k.0)
  own_ends d write_success_go k = inr (true, ap (λ x. answers x true) k.0)
  own_ends d (withdraw_go {ok = ok} cas) k = inr (ok, ap (λ x. answers x ok) k.0)

  -- a first failure ends the owner's run before anything is written
  pub nothing_written : (d : ℕ) {c c' : Position} {m' : Memory} → Act s m c (first_failed d) m' c' → (c ≡ at_publish d) × (c' ≡ idle) × (m' ≡ m)
  nothing_written d (publish_miss e) = (refl, refl, refl)

  -- an answer ends a run or a help of its descriptor
  pub answer_ends : (d : ℕ) (ok : Bool) {c c' : Position} {m' : Memory} → Act s m c (answers d ok) m' c' → Of d c × (c' ≡ idle)
  answer_ends d ok (fail_success e) = (refl, refl)
  answer_ends d ok (give_back_go cas) = (refl, refl)
  answer_ends d ok (decide_ended _ e) = (refl, refl)
  answer_ends d ok write_success_go = (refl, refl)
  answer_ends d ok (withdraw_go cas) = (refl, refl)
