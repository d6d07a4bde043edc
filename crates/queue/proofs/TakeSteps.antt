-- A take at a queue: what it notes, and what its swaps do.
use Rattle.std.specs.Prelude.{◌≡◌, ℕ, zero, suc, ◌+◌, ◌*◌, ◌≤◌, Bool, true, false, cond, ◌||◌, List, [], ◌∷◌, ◌==◌, refl}
use Rattle.std.proofs.Common.{sym, ap, subst, ◌∙◌, arith, ne_eqb}
use Rattle.std.proofs.lemmas.Bool.{eqb-false}
use Rattle.records.specs.declared.entries.Swap.{Swap}
use Rattle.kinds.specs.declared.acts.Notes.{Notes}
use Rattle.kinds.specs.Views.{View, Owned, Wrote}
use Rattle.kinds.specs.Plain.{gives, yields}
use Rattle.kinds.specs.Plans.{start, found_nothing, idle, takes, is_empty, finds}
use Rattle.kinds.specs.Points.{TakeKeeps}
use Rattle.kinds.proofs.Steady.{OnTakeRead, OnTakeTidy, OnTakeCommit, OnEmpty, Stays}
use Rattle.kinds.proofs.Chains.{Chain}
use Rattle.queue.specs.Queue.{take_end, take_acts, take_notes, queue_plan}
use Rattle.queue.proofs.Leads.{here, leads_end}
use Rattle.queue.proofs.Facts.{Line, NextNoted, next_noted, ParcelNoted, TakeNoted, queue_way}
use Rattle.queue.proofs.Moves.{tail_stays, head_takes, apart_head}
use Rattle.queue.proofs.Exact.{take_exactly, take_exact, take_one, finds_word, no_peek, on_take_read}
use Rattle.queue.proofs.Sharing.{Alone, head_shared, tail_shared, next_shared, reads, tail_swaps}

-- what notes say of a take
abbrev Says : View → ℕ → Notes → Bool → Type 0
Says V t m b = TakeNoted V t m.stage m.one m.two m.three m.parcel b

-- A second read that finds the same goes on, and another starts over.
read_again : (V : View) (t x z y p : ℕ) (b same : Bool) → TakeNoted V t 4 x z y p b → Says V t (cond same (record { stage = 4; one = x; two = z; three = y; parcel = p }) start) b
read_again V t x z y p b true h = h
read_again V t x z y p b false h = omega arith

or_true : (b : Bool) → (b || true) ≡ true
or_true true = refl
or_true false = refl

-- A take that met the queue empty did so for good.
next_marked : (V : View) (t x y : ℕ) (b c : Bool) → NextNoted V t x y (b ≡ true) → NextNoted V t x y ((b || c) ≡ true)
next_marked V t x zero b c h = ap (λ d. d || c) h
next_marked V t x (suc y) b c h = h

none_behind : (V : View) (t n p : ℕ) (xs : List ℕ) (b : Bool) → V.word (64 + n) ≡ 0 → Chain (Owned V t) V n (p ∷ xs) → (b || is_empty xs) ≡ true
none_behind V t n p [] b e c = or_true b
none_behind V t n p (q ∷ qs) b e c = absurd (omega (arith, e, c.2.0.positive))

found_parcel : (V : View) (w : ℕ) → ParcelNoted V w (finds queue_plan V w).parcel
found_parcel V zero = tt
found_parcel V (suc n) = refl

-- at its end a take reads no more
end_reads : (t x y p : ℕ) (c : Bool) (Q : ℕ → Type 0) → OnTakeRead (take_end (2 * t) (2 * t + 1) c x y p) Q
end_reads t x zero p c Q = tt
end_reads t x (suc y) p true Q = tt
end_reads t x (suc y) p false Q = tt

-- A commit that succeeds gives the parcel that it names.
abbrev Commits : ℕ → View → View → List ℕ → Swap → ℕ → Type 0
Commits t V V' xs w x = V.word w.address ≡ w.old → Wrote V V' w.address w.new → (ys : List ℕ) × (yields queue_plan.rule xs ≡ gives x ys) × Stays queue_way t V V' tt ys 0 idle

exact : (t : ℕ) (V : View) (xs : List ℕ) → Line t V tt xs → (m : Notes) (b : Bool) → Says V t m b → queue_plan.take_act t m ≡ take_exactly t m
exact t V xs h m b q = take_exact V t m h.tray (take_one V t m.stage m.one m.two m.three m.parcel b q)

module _ (t : ℕ) (V : View) (xs : List ℕ) (h : Line t V tt xs) where
  read_notes : (k x z y p : ℕ) (b : Bool) → TakeNoted V t k x z y p b → OnTakeRead (take_acts (2 * t) (2 * t + 1) (64 + x) k x z y p) λ a.
      Says V t (take_notes k x z y p (V.word a) (finds queue_plan V (V.word a)).parcel) (b || is_empty xs)
  read_notes zero x z y p b q = (h.chain.0, here)
  read_notes (suc zero) x z y p b q = (q.0, q.1, λ at ne e. ne (sym e))
  read_notes (suc (suc zero)) x z y p b q =
      let empty : V.word (64 + x) ≡ 0 → (b || is_empty xs) ≡ true = λ e.
      none_behind V t _ h.lead xs b (ap (λ j. V.word (64 + j)) (sym (leads_end V t q.1 e)) ∙ e) h.chain in
      (q.0, q.1, q.2, next_noted V t h.lead xs (V.word (64 + x)) ((b || is_empty xs) ≡ true) q.1 h.chain refl empty, found_parcel V (V.word (64 + x)))
  read_notes (suc (suc (suc zero))) x z y p b q = read_again V t x z y p (b || is_empty xs) (V.word (2 * t) == x) (q.0, q.1, q.2, next_marked V t x y b (is_empty xs) q.3, q.4)
  read_notes (suc (suc (suc (suc i)))) x z y p b q = end_reads t x y p (x == z) _

  found_notes : (m : Notes) (b : Bool) → Says V t m b → OnTakeRead (take_exactly t m) λ a. Says V t (queue_plan.take_noted m (finds queue_plan V (V.word a))) (b || is_empty xs)
  found_notes m b q =
      on_take_read (take_exactly t m) _ _
      (λ a s. subst (λ v. Says V t (take_notes m.stage m.one m.two m.three m.parcel v (finds queue_plan V (V.word a)).parcel) (b || is_empty xs)) (sym (finds_word V (V.word a))) s)
      (read_notes m.stage m.one m.two m.three m.parcel b q)

  pub take_reads : (m : Notes) (b : Bool) → Says V t m b → OnTakeRead (queue_plan.take_act t m) λ a. Says V t (queue_plan.take_noted m (finds queue_plan V (V.word a))) (b || is_empty xs)
  take_reads m b q = rw (exact t V xs h m b q) (found_notes m b q)

  tidied : (V' : View) (k x z y p : ℕ) (b : Bool) → TakeNoted V t k x z y p b → OnTakeTidy (take_acts (2 * t) (2 * t + 1) (64 + x) k x z y p) λ w.
      V.word w.address ≡ w.old → Wrote V V' w.address w.new → Stays queue_way t V V' tt xs 0 (takes (take_notes k x z y p 0 0) b)
  tidied V' zero x z y p b q = tt
  tidied V' (suc zero) x z y p b q = tt
  tidied V' (suc (suc zero)) x z y p b q = tt
  tidied V' (suc (suc (suc zero))) x z y p b q = tt
  tidied V' (suc (suc (suc (suc i)))) x z zero p b q = tt
  tidied V' (suc (suc (suc (suc i)))) x z (suc y) p b q = go (x == z)
    where
      go : (c : Bool) → OnTakeTidy (take_end (2 * t) (2 * t + 1) c x (suc y) p) λ w. V.word w.address ≡ w.old → Wrote V V' w.address w.new → Stays queue_way t V V' tt xs 0 (takes start b)
      go true = λ at w. tail_stays t V V' xs h x (suc y) q.0 q.3.1 q.3.0 at w 0 (takes start b) tt (omega arith)
      go false = tt

  pub take_tidies : (V' : View) (m : Notes) (b : Bool) → Says V t m b → OnTakeTidy (queue_plan.take_act t m) λ w.
      V.word w.address ≡ w.old → Wrote V V' w.address w.new → Stays queue_way t V V' tt xs 0 (takes (queue_plan.take_noted m found_nothing) b)
  take_tidies V' m b q = rw (exact t V xs h m b q) (tidied V' m.stage m.one m.two m.three m.parcel b q)

  tidied_not : (k x z y p : ℕ) (b : Bool) → OnTakeTidy (take_acts (2 * t) (2 * t + 1) (64 + x) k x z y p) λ w. Says V t (take_notes k x z y p 0 0) b
  tidied_not zero x z y p b = tt
  tidied_not (suc zero) x z y p b = tt
  tidied_not (suc (suc zero)) x z y p b = tt
  tidied_not (suc (suc (suc zero))) x z y p b = tt
  tidied_not (suc (suc (suc (suc i)))) x z zero p b = tt
  tidied_not (suc (suc (suc (suc i)))) x z (suc y) p b = go (x == z)
    where
      go : (c : Bool) → OnTakeTidy (take_end (2 * t) (2 * t + 1) c x (suc y) p) λ w. 0 ≤ V.taken
      go true = omega arith
      go false = tt

  pub take_tidied_not : (m : Notes) (b : Bool) → Says V t m b → OnTakeTidy (queue_plan.take_act t m) λ w. Says V t (queue_plan.take_noted m found_nothing) b
  take_tidied_not m b q = rw (exact t V xs h m b q) (tidied_not m.stage m.one m.two m.three m.parcel b)

  committed : (V' : View) (k x z y p : ℕ) (b : Bool) → TakeNoted V t k x z y p b → OnTakeCommit (take_acts (2 * t) (2 * t + 1) (64 + x) k x z y p) λ w c. Commits t V V' xs w c
  committed V' zero x z y p b q = tt
  committed V' (suc zero) x z y p b q = tt
  committed V' (suc (suc zero)) x z y p b q = tt
  committed V' (suc (suc (suc zero))) x z y p b q = tt
  committed V' (suc (suc (suc (suc i)))) x z zero p b q = tt
  committed V' (suc (suc (suc (suc i)))) x z (suc y) p b q = go (x == z) refl
    where
      go : (d : Bool) → (x == z) ≡ d → OnTakeCommit (take_end (2 * t) (2 * t + 1) d x (suc y) p) λ w c. Commits t V V' xs w c
      go true e = tt
      go false e = λ at w.
          let k = head_takes t V V' x (suc y) q.0 q.3.1 q.3.0 at w xs h (q.2 at (eqb-false x z e)) in
          (k.0, ap (yields queue_plan.rule) k.1 ∙ ap (λ c. gives c k.0) q.4, k.2)

  pub take_commits : (V' : View) (m : Notes) (b : Bool) → Says V t m b → OnTakeCommit (queue_plan.take_act t m) λ w c. Commits t V V' xs w c
  take_commits V' m b q = rw (exact t V xs h m b q) (committed V' m.stage m.one m.two m.three m.parcel b q)

  saw_empty : (k x z y p : ℕ) (b : Bool) → TakeNoted V t k x z y p b → OnEmpty (take_acts (2 * t) (2 * t + 1) (64 + x) k x z y p) (b ≡ true)
  saw_empty zero x z y p b q = tt
  saw_empty (suc zero) x z y p b q = tt
  saw_empty (suc (suc zero)) x z y p b q = tt
  saw_empty (suc (suc (suc zero))) x z y p b q = tt
  saw_empty (suc (suc (suc (suc i)))) x z zero p b q = q.3
  saw_empty (suc (suc (suc (suc i)))) x z (suc y) p b q = go (x == z)
    where
      go : (c : Bool) → OnEmpty (take_end (2 * t) (2 * t + 1) c x (suc y) p) (b ≡ true)
      go true = tt
      go false = tt

  pub empty_seen : (m : Notes) (b : Bool) → Says V t m b → OnEmpty (queue_plan.take_act t m) (b ≡ true)
  empty_seen m b q = rw (exact t V xs h m b q) (saw_empty m.stage m.one m.two m.three m.parcel b q)

  keeps : (k x z y p : ℕ) (b : Bool) → TakeNoted V t k x z y p b → TakeKeeps queue_plan V (Alone t V) t (take_acts (2 * t) (2 * t + 1) (64 + x) k x z y p)
  keeps zero x z y p b q = reads t V (2 * t) (head_shared t V h.tray)
  keeps (suc zero) x z y p b q = reads t V (2 * t + 1) (tail_shared t V h.tray)
  keeps (suc (suc zero)) x z y p b q = reads t V (64 + x) (next_shared t V x q.0 (λ n. apart_head V t x n q.1))
  keeps (suc (suc (suc zero))) x z y p b q = reads t V (2 * t) (head_shared t V h.tray)
  keeps (suc (suc (suc (suc i)))) x z zero p b q = tt
  keeps (suc (suc (suc (suc i)))) x z (suc y) p b q = go (x == z)
    where
      go : (c : Bool) → TakeKeeps queue_plan V (Alone t V) t (take_end (2 * t) (2 * t + 1) c x (suc y) p)
      go true = tail_swaps t V x (suc y) h.tray q.0 q.3.1
      go false = record { shared = head_shared t V h.tray; old = q.0.taken; new = q.3.1.taken; calm = no_peek; apart = ne_eqb (2 * t) (2 * t + 1) (omega arith) }

  pub take_keeps : (m : Notes) (b : Bool) → Says V t m b → TakeKeeps queue_plan V (Alone t V) t (queue_plan.take_act t m)
  take_keeps m b q = rw (exact t V xs h m b q) (keeps m.stage m.one m.two m.three m.parcel b q)
