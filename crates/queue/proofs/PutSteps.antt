-- A put at a queue: what it notes, and what its swaps do.
use Rattle.std.specs.Prelude.{◌≡◌, ℕ, zero, suc, ◌+◌, ◌*◌, Bool, true, false, cond, List, [], ◌∷◌, ◌++◌, ◌==◌, refl}
use Rattle.std.proofs.Common.{sym, subst, arith, ne_eqb}
use Rattle.kinds.specs.declared.acts.Notes.{Notes}
use Rattle.kinds.specs.Views.{View, Owned, Wrote}
use Rattle.kinds.specs.Plans.{start, found_nothing, puts, rests, finds}
use Rattle.kinds.specs.Points.{Shared, PutKeeps}
use Rattle.kinds.proofs.Steady.{OnPutRead, OnPutTidy, OnPutCommit, Stays}
use Rattle.queue.specs.Queue.{put_acts, put_notes, queue_plan}
use Rattle.queue.proofs.Leads.{Leads, here}
use Rattle.queue.proofs.Facts.{Line, next_noted, PutNoted, Apart, queue_way}
use Rattle.queue.proofs.Onward.{tail_chain, same_still, covers_any, still_stays, Any}
use Rattle.queue.proofs.Moves.{tail_stays, link_stays, apart_tail}
use Rattle.queue.proofs.Sharing.{Alone, tail_shared, next_shared, reads, tail_swaps}
use Rattle.queue.proofs.Exact.{put_exactly, put_exact, put_one, finds_word, wrote_same, no_peek, on_put_read}

-- what notes say of a put
abbrev Says : View → ℕ → Notes → Type 0
Says V t m = PutNoted V t m.stage m.one m.two

-- A second read that finds the same goes on, and another starts over.
read_again : (V : View) (t x y : ℕ) (same : Bool) → PutNoted V t 3 x y → Says V t (cond same (record { stage = 3; one = x; two = y; three = 0; parcel = 0 }) start)
read_again V t x y true h = h
read_again V t x y false h = omega arith

exact : (t : ℕ) (V : View) (xs : List ℕ) → Line t V tt xs → (n : ℕ) (m : Notes) → Says V t m → queue_plan.put_act t n m ≡ put_exactly t n m
exact t V xs h n m q = put_exact V t n m h.tray (put_one V t m.stage m.one m.two q)

module _ (t : ℕ) (V : View) (xs : List ℕ) (h : Line t V tt xs) (n : ℕ) where
  read_notes : (k x y : ℕ) → PutNoted V t k x y → OnPutRead (put_acts (2 * t + 1) (64 + x) n k x y) λ a. Says V t (put_notes k x y (V.word a))
  read_notes zero x y q = ((tail_chain t V xs h).2.0, here)
  read_notes (suc zero) x y q =
      let c = tail_chain t V xs h in
      (q.0, q.1, next_noted V t c.0 c.1 (V.word (64 + x)) (Unit {0}) q.1 c.2 refl (λ _. tt))
  read_notes (suc (suc zero)) x y q = read_again V t x y (V.word (2 * t + 1) == x) q
  read_notes (suc (suc (suc i))) x zero q = tt
  read_notes (suc (suc (suc i))) x (suc y) q = tt

  -- The node is filled with nil, which was there.
  pub put_reads : (V' : View) (m : Notes) → Owned V t n → Apart V t n → Says V t m → OnPutRead (queue_plan.put_act t n m) λ a.
      Wrote V V' (64 + n) 0 → Stays queue_way t V V' tt xs n (puts n (queue_plan.put_noted m (finds queue_plan V (V.word a))))
  put_reads V' m o a q =
      rw (exact t V xs h n m q)
      (on_put_read (put_exactly t n m) _ _
      (λ c own w.
      let said : Says V t (queue_plan.put_noted m (finds queue_plan V (V.word c))) = subst (λ v. Says V t (put_notes m.stage m.one m.two v)) (sym (finds_word V (V.word c))) own in
      still_stays t V V' Any (same_still t V V' (wrote_same V V' (64 + n) 0 a.blank w)) xs h (covers_any t V xs h) n (puts n (queue_plan.put_noted m (finds queue_plan V (V.word c)))) o (a, said))
      (read_notes m.stage m.one m.two q))

  tidied : (V' : View) (k x y : ℕ) → Owned V t n → Apart V t n → PutNoted V t k x y → OnPutTidy (put_acts (2 * t + 1) (64 + x) n k x y) λ w.
      V.word w.address ≡ w.old → Wrote V V' w.address w.new → Stays queue_way t V V' tt xs n (puts n (put_notes k x y 0))
  tidied V' zero x y o a q = tt
  tidied V' (suc zero) x y o a q = tt
  tidied V' (suc (suc zero)) x y o a q = tt
  tidied V' (suc (suc (suc i))) x zero o a q = tt
  tidied V' (suc (suc (suc i))) x (suc y) o a q = λ at w. tail_stays t V V' xs h x (suc y) q.0 q.2.1 q.2.0 at w n (puts n start) o (a, omega arith)

  pub put_tidies : (V' : View) (m : Notes) → Owned V t n → Apart V t n → Says V t m → OnPutTidy (queue_plan.put_act t n m) λ w.
      V.word w.address ≡ w.old → Wrote V V' w.address w.new → Stays queue_way t V V' tt xs n (puts n (queue_plan.put_noted m found_nothing))
  put_tidies V' m o a q = rw (exact t V xs h n m q) (tidied V' m.stage m.one m.two o a q)

  tidied_not : (k x y : ℕ) → Apart V t n → OnPutTidy (put_acts (2 * t + 1) (64 + x) n k x y) λ w. Apart V t n × Says V t (put_notes k x y 0)
  tidied_not zero x y a = tt
  tidied_not (suc zero) x y a = tt
  tidied_not (suc (suc zero)) x y a = tt
  tidied_not (suc (suc (suc i))) x zero a = tt
  tidied_not (suc (suc (suc i))) x (suc y) a = (a, omega arith)

  pub put_tidied_not : (m : Notes) → Apart V t n → Says V t m → OnPutTidy (queue_plan.put_act t n m) λ w. Apart V t n × Says V t (queue_plan.put_noted m found_nothing)
  put_tidied_not m a q = rw (exact t V xs h n m q) (tidied_not m.stage m.one m.two a)

  committed : (V' : View) (m : Notes) (k x y : ℕ) → m.one ≡ x → Owned V t n → Apart V t n → PutNoted V t k x y → OnPutCommit (put_acts (2 * t + 1) (64 + x) n k x y) λ w.
      V.word w.address ≡ w.old → Wrote V V' w.address w.new → Stays queue_way t V V' tt (xs ++ (V.parcel n ∷ [])) n (rests n m)
  committed V' m zero x y is o a q = tt
  committed V' m (suc zero) x y is o a q = tt
  committed V' m (suc (suc zero)) x y is o a q = tt
  committed V' m (suc (suc (suc i))) x zero is o a q = λ end w. link_stays t V V' xs h x n q.0 o q.1 a end w m is
  committed V' m (suc (suc (suc i))) x (suc y) is o a q = tt

  pub put_commits : (V' : View) (m : Notes) → Owned V t n → Apart V t n → Says V t m → OnPutCommit (queue_plan.put_act t n m) λ w.
      V.word w.address ≡ w.old → Wrote V V' w.address w.new → Stays queue_way t V V' tt (xs ++ (V.parcel n ∷ [])) n (rests n m)
  put_commits V' m o a q = rw (exact t V xs h n m q) (committed V' m m.stage m.one m.two refl o a q)

module _ (t : ℕ) (V : View) (xs : List ℕ) (h : Line t V tt xs) (n : ℕ) where
  noted_shared : (x : ℕ) → Owned V t x → Leads V t x (V.word (2 * t + 1)) → Shared V (Alone t V) t (64 + x)
  noted_shared x o r = next_shared t V x o (λ k. apart_tail V t x k h.tail r)

  keeps : (k x y : ℕ) → Owned V t n → PutNoted V t k x y → PutKeeps queue_plan V (Alone t V) t (put_acts (2 * t + 1) (64 + x) n k x y)
  keeps zero x y o q = reads t V (2 * t + 1) (tail_shared t V h.tray)
  keeps (suc zero) x y o q = reads t V (64 + x) (noted_shared x q.0 q.1)
  keeps (suc (suc zero)) x y o q = reads t V (2 * t + 1) (tail_shared t V h.tray)
  keeps (suc (suc (suc i))) x zero o q = record { shared = noted_shared x q.0 q.1; old = omega arith; new = o.taken; calm = no_peek; apart = ne_eqb (64 + x) (2 * t + 1) (omega (arith, h.tray)) }
  keeps (suc (suc (suc i))) x (suc y) o q = tail_swaps t V x (suc y) h.tray q.0 q.2.1

  pub put_keeps : (m : Notes) → Owned V t n → Says V t m → PutKeeps queue_plan V (Alone t V) t (queue_plan.put_act t n m)
  put_keeps m o q = rw (exact t V xs h n m q) (keeps m.stage m.one m.two o q)
