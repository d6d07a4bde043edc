-- Undisturbed, a request at a queue comes to its end.
use Rattle.std.specs.Prelude.{◌≡◌, ℕ, zero, suc, ◌+◌, ◌*◌, ◌<◌, ◌≤◌, Bool, true, false, cond, ◌≢◌, ◌⊎◌, List, ◌==◌, refl}
use Rattle.std.proofs.Common.{sym, ap, subst, ◌∙◌, inl, inr, arith, eq-eqb, ne_eqb}
use Rattle.std.proofs.Math.Decide.{ℕ_discrete}
use Rattle.kinds.specs.declared.acts.Notes.{Notes}
use Rattle.kinds.specs.declared.acts.PutAct.TheVariants.{Read as PutRead}
use Rattle.kinds.specs.declared.acts.TakeAct.TheVariants.{Read as TakeRead}
use Rattle.kinds.specs.Views.{View, Same}
use Rattle.kinds.specs.Plans.{start, finds}
use Rattle.kinds.specs.Points.{Exactly, hit, miss, PutAlone, TakeAlone, PutEnds, TakeEnds}
use Rattle.queue.specs.Queue.{take_end, put_notes, take_notes, queue_plan}
use Rattle.queue.proofs.Leads.{here, leads_eq, no_circle, next_owned}
use Rattle.queue.proofs.Facts.{Line}
use Rattle.queue.proofs.Onward.{tail_chain}
use Rattle.queue.proofs.Exact.{put_exactly, put_exact, take_exactly, take_exact, finds_word, wrote_same}

abbrev put_at : ℕ → ℕ → ℕ → Notes
put_at k x y = record { stage = k; one = x; two = y; three = 0; parcel = 0 }

same_join : (V V' V'' : View) → Same V V' → Same V' V'' → Same V V''
same_join V V' V'' p q = record {
  words = λ a. q.words a ∙ p.words a;
  nodes = record { parcels = λ n. q.nodes.parcels n ∙ p.nodes.parcels n; owns = λ n. q.nodes.owns n ∙ p.nodes.owns n; taken = q.nodes.taken ∙ p.nodes.taken };
}

module _ (t n : ℕ) (lt : t < 32) where
  put_act_ends : (V : View) (k : ℕ) (m : Notes) → m.one ≤ V.taken → PutAlone queue_plan (λ V' m'. PutEnds queue_plan t k V' n m') V n m (put_exactly t n m) → PutEnds queue_plan t (suc k) V n m
  put_act_ends V k m le h = subst (λ x. PutAlone queue_plan (λ V' m'. PutEnds queue_plan t k V' n m') V n m x) (sym (put_exact V t n m lt le)) h

  -- a read, after which the node is filled with nil, which was there
  put_read_ends : (V : View) (k : ℕ) (m : Notes) (a : ℕ) → m.one ≤ V.taken → put_exactly t n m ≡ PutRead a → V.word (64 + n) ≡ 0 →
      ((V' : View) → Same V V' → PutEnds queue_plan t k V' n (put_notes m.stage m.one m.two (V.word a))) → PutEnds queue_plan t (suc k) V n m
  put_read_ends V k m a le is blank then =
      put_act_ends V k m le
      (subst (λ x. PutAlone queue_plan (λ V' m'. PutEnds queue_plan t k V' n m') V n m x) (sym is)
      (λ V' w. subst (λ v. PutEnds queue_plan t k V' n (put_notes m.stage m.one m.two v)) (sym (finds_word V (V.word a))) (then V' (wrote_same V V' (64 + n) 0 blank w))))

  -- Three reads bring a put to its end, with the tail and the next word there.
  put_round : (V : View) (k : ℕ) → V.word (64 + n) ≡ 0 → V.word (2 * t + 1) ≤ V.taken →
      ((V' : View) → Same V V' → PutEnds queue_plan t k V' n (put_at 3 (V.word (2 * t + 1)) (V.word (64 + V.word (2 * t + 1))))) → PutEnds queue_plan t (suc (suc (suc k))) V n start
  put_round V k blank le then =
      let x : ℕ = V.word (2 * t + 1) in
      put_read_ends V (suc (suc k)) start (2 * t + 1) (omega arith) refl blank (λ V1 s1.
      put_read_ends V1 (suc k) (put_at 1 x 0) (64 + x) (omega (arith, le, s1.nodes.taken)) refl (s1.words (64 + n) ∙ blank) (λ V2 r2.
      let s2 = same_join V V1 V2 s1 r2 in
      put_read_ends V2 k (put_at 2 x (V1.word (64 + x))) (2 * t + 1) (omega (arith, le, s2.nodes.taken)) refl (s2.words (64 + n) ∙ blank) (λ V3 r3.
      let s3 = same_join V V2 V3 s2 r3 in
      let at_end : PutEnds queue_plan t k V3 n (put_at 3 x (V1.word (64 + x))) = subst (λ y. PutEnds queue_plan t k V3 n (put_at 3 x y)) (sym (s1.words (64 + x))) (then V3 s3) in
      subst (λ c. PutEnds queue_plan t k V3 n (cond c (put_at 3 x (V1.word (64 + x))) start)) (sym (eq-eqb (V2.word (2 * t + 1)) x (s2.words (2 * t + 1)))) at_end)))

  -- Tail's node is the last.
  put_links : (V : View) (k : ℕ) → V.word (64 + n) ≡ 0 → V.word (2 * t + 1) ≤ V.taken → V.word (64 + V.word (2 * t + 1)) ≡ 0 → PutEnds queue_plan t (suc (suc (suc (suc k)))) V n start
  put_links V k blank le last = put_round V (suc k) blank le
      (λ V' s.
      put_act_ends V' k (put_at 3 (V.word (2 * t + 1)) (V.word (64 + V.word (2 * t + 1)))) (omega (arith, le, s.nodes.taken))
      (subst (λ y. PutAlone queue_plan (λ V'' m''. PutEnds queue_plan t k V'' n m'') V' n (put_at 3 (V.word (2 * t + 1)) y) (put_exactly t n (put_at 3 (V.word (2 * t + 1)) y))) (sym last) (s.words _ ∙ last)))

pub put_ends : (t n : ℕ) (V : View) (xs : List ℕ) → Line t V tt xs → V.word (64 + n) ≡ 0 → PutEnds queue_plan t 10 V n start
put_ends t n V xs h blank = go (V.word (64 + V.word (2 * t + 1))) refl
  where
    behind_tail : (y : ℕ) → V.word (64 + V.word (2 * t + 1)) ≡ suc y → (V.word (64 + V.word (2 * t + 1)) ≡ 0) ⊎ (V.word (64 + V.word (64 + V.word (2 * t + 1))) ≡ 0) → V.word (64 + suc y) ≡ 0
    behind_tail y e (inl z) = absurd (omega (arith, e, z))
    behind_tail y e (inr z) = ap (λ k. V.word (64 + k)) (sym e) ∙ z

    at_tail : V.word (2 * t + 1) ≤ V.taken
    at_tail = (tail_chain t V xs h).2.0.taken

    next_taken : (y : ℕ) → V.word (64 + V.word (2 * t + 1)) ≡ suc y → suc y ≤ V.taken
    next_taken y e = let c = tail_chain t V xs h in (next_owned V t c.0 c.1 y here c.2 e).taken

    tidied : (y : ℕ) → suc y ≤ V.taken → V.word (64 + V.word (2 * t + 1)) ≡ suc y → (V' : View) → Same V V' → (V2 : View) → Exactly V' V2 (record { address = 2 * t + 1; old = V.word (2 * t + 1); new = suc y }) → PutEnds queue_plan t 6 V2 n start
    tidied y le e V' s V2 (hit at w) =
        let still : (c : ℕ) → V2.word (64 + c) ≡ V.word (64 + c) = λ c. w.there (64 + c) (omega (arith, h.tray)) ∙ s.words (64 + c) in
        put_links t n h.tray V2 2 (still n ∙ blank) (omega (arith, w.here, le, w.nodes.taken, s.nodes.taken)) (ap (λ k. V2.word (64 + k)) w.here ∙ still (suc y) ∙ behind_tail y e h.lag)
    tidied y le e V' s V2 (miss ne same) = absurd (ne (s.words (2 * t + 1)))

    go : (y : ℕ) → V.word (64 + V.word (2 * t + 1)) ≡ y → PutEnds queue_plan t 10 V n start
    go zero e = put_links t n h.tray V 6 blank at_tail e
    go (suc y) e = put_round t n h.tray V 7 blank at_tail (λ V' s.
        put_act_ends t n h.tray V' 6 (put_at 3 (V.word (2 * t + 1)) (V.word (64 + V.word (2 * t + 1)))) (omega (arith, at_tail, s.nodes.taken))
        (subst (λ y. PutAlone queue_plan (λ V'' m''. PutEnds queue_plan t 6 V'' n m'') V' n (put_at 3 (V.word (2 * t + 1)) y) (put_exactly t n (put_at 3 (V.word (2 * t + 1)) y))) (sym e) (tidied y (next_taken y e) e V' s)))

-- the parcel that a take notes with the word y
abbrev noted_parcel : View → ℕ → ℕ
noted_parcel V y = (finds queue_plan V y).parcel

abbrev take_at : ℕ → ℕ → ℕ → ℕ → ℕ → Notes
take_at k x z y p = record { stage = k; one = x; two = z; three = y; parcel = p }

module _ (t : ℕ) (lt : t < 32) where
  take_act_ends : (V : View) (k : ℕ) (m : Notes) → m.one ≤ V.taken → TakeAlone queue_plan (λ V' m'. TakeEnds queue_plan t k V' m') V m (take_exactly t m) → TakeEnds queue_plan t (suc k) V m
  take_act_ends V k m le h = subst (λ x. TakeAlone queue_plan (λ V' m'. TakeEnds queue_plan t k V' m') V m x) (sym (take_exact V t m lt le)) h

  take_read_ends : (V : View) (k : ℕ) (m : Notes) (a : ℕ) → m.one ≤ V.taken → take_exactly t m ≡ TakeRead a →
      TakeEnds queue_plan t k V (take_notes m.stage m.one m.two m.three m.parcel (V.word a) (noted_parcel V (V.word a))) → TakeEnds queue_plan t (suc k) V m
  take_read_ends V k m a le is then =
      take_act_ends V k m le
      (subst (λ x. TakeAlone queue_plan (λ V' m'. TakeEnds queue_plan t k V' m') V m x) (sym is)
      (subst (λ v. TakeEnds queue_plan t k V (take_notes m.stage m.one m.two m.three m.parcel v (noted_parcel V (V.word a)))) (sym (finds_word V (V.word a))) then))

  -- what is left of a take, by whether tail was at head
  abbrev Left : ℕ → View → ℕ → ℕ → ℕ → ℕ → Bool → Type 0
  Left k V x z y p c = TakeAlone queue_plan (λ V' m'. TakeEnds queue_plan t k V' m') V (take_at 4 x z y p) (take_end (2 * t) (2 * t + 1) c x y p)

  -- Four reads bring a take to its end, with the head, the tail and the next word at the head.
  take_round : (V : View) (k : ℕ) → V.word (2 * t) ≤ V.taken →
      ((p : ℕ) → Left k V (V.word (2 * t)) (V.word (2 * t + 1)) (V.word (64 + V.word (2 * t))) p (V.word (2 * t) == V.word (2 * t + 1))) → TakeEnds queue_plan t (suc (suc (suc (suc (suc k))))) V start
  take_round V k le then =
      let x : ℕ = V.word (2 * t) in
      let z : ℕ = V.word (2 * t + 1) in
      let y : ℕ = V.word (64 + x) in
      let p : ℕ = (take_notes 2 x z 0 0 y (noted_parcel V y)).parcel in
      take_read_ends V (suc (suc (suc (suc k)))) start (2 * t) (omega arith) refl
      (take_read_ends V (suc (suc (suc k))) (take_at 1 x 0 0 0) (2 * t + 1) le refl
      (take_read_ends V (suc (suc k)) (take_at 2 x z 0 0) (64 + x) le refl
      (take_read_ends V (suc k) (take_at 3 x z y p) (2 * t) le refl
      (subst (λ c. TakeEnds queue_plan t (suc k) V (cond c (take_at 4 x z y p) start)) (sym (eq-eqb x x refl))
      (take_act_ends V k (take_at 4 x z y p) le (then p))))))

  take_gives : (V : View) (k : ℕ) → V.word (2 * t) ≤ V.taken → V.word (2 * t) ≢ V.word (2 * t + 1) → TakeEnds queue_plan t (suc (suc (suc (suc (suc k))))) V start
  take_gives V k le ne = take_round V k le
      (λ p. subst (Left k V (V.word (2 * t)) (V.word (2 * t + 1)) (V.word (64 + V.word (2 * t))) p) (sym (ne_eqb (V.word (2 * t)) (V.word (2 * t + 1)) ne)) (go p (V.word (64 + V.word (2 * t)))))
    where
      go : (p y : ℕ) → Left k V (V.word (2 * t)) (V.word (2 * t + 1)) y p false
      go p zero = tt
      go p (suc y) = refl

pub take_ends : (t : ℕ) (V : View) (xs : List ℕ) → Line t V tt xs → TakeEnds queue_plan t 10 V start
take_ends t V xs h = go (ℕ_discrete (V.word (2 * t)) (V.word (2 * t + 1)))
  where
    tidied : (y : ℕ) → V.word (64 + V.word (2 * t)) ≡ suc y → V.word (2 * t) ≡ V.word (2 * t + 1) → (V2 : View) → Exactly V V2 (record { address = 2 * t + 1; old = V.word (2 * t); new = suc y }) → TakeEnds queue_plan t 5 V2 start
    tidied y e same V2 (hit at w) =
        let kept : V2.word (2 * t) ≡ V.word (2 * t) = w.there (2 * t) (omega arith) in
        take_gives t h.tray V2 0 (omega (arith, kept, h.chain.0.taken, w.nodes.taken)) (λ q.
        let loop : V.word (2 * t) ≡ V.word (64 + V.word (2 * t)) = sym kept ∙ q ∙ w.here ∙ sym e in
        no_circle V t (V.word (2 * t)) h.lead xs h.chain (leads_eq V t (V.word (64 + V.word (2 * t))) (V.word (2 * t)) loop))
    tidied y e same V2 (miss ne _) = absurd (ne (sym same))

    left : V.word (2 * t) ≡ V.word (2 * t + 1) → (p y : ℕ) → V.word (64 + V.word (2 * t)) ≡ y → Left t h.tray 5 V (V.word (2 * t)) (V.word (2 * t + 1)) y p true
    left same p zero e = tt
    left same p (suc y) e = tidied y e same

    go : Dec (V.word (2 * t) ≡ V.word (2 * t + 1)) → TakeEnds queue_plan t 10 V start
    go (yes same) = take_round t h.tray V 5 h.chain.0.taken
        (λ p. subst (Left t h.tray 5 V (V.word (2 * t)) (V.word (2 * t + 1)) (V.word (64 + V.word (2 * t))) p) (sym (eq-eqb (V.word (2 * t)) (V.word (2 * t + 1)) same)) (left same p (V.word (64 + V.word (2 * t))) refl))
    go (no ne) = take_gives t h.tray V 5 h.chain.0.taken ne
