-- What changes a queue: tail moves, head moves, a node is linked, a node that is not linked gets another parcel.
use Rattle.std.specs.Prelude.{◌≡◌, ℕ, suc, ◌+◌, ◌*◌, ◌≢◌, ◌⊎◌, List, [], ◌∷◌, ◌++◌}
use Rattle.std.proofs.Common.{sym, ap, subst, ◌∙◌, inl, inr, arith}
use Rattle.kinds.specs.declared.acts.Notes.{Notes}
use Rattle.kinds.specs.Views.{View, Owned, Wrote, Took, Refilled}
use Rattle.kinds.specs.Plans.{Slot, idle, parked, rests}
use Rattle.kinds.proofs.Ways.{Each, Fits}
use Rattle.kinds.proofs.Steady.{Stays}
use Rattle.kinds.proofs.Held.{owned_kept}
use Rattle.kinds.proofs.Chains.{Chain, chain_kept}
use Rattle.queue.proofs.Leads.{Leads, here, step, leads_eq, leads_end, leads_join, leads_past, leads_on, no_circle, circle, leads_chain, leads_back, chain_off, blank_still, linked_owned, linked_nexts, leads_linked, chain_linked}
use Rattle.queue.proofs.Facts.{Line, Apart, queue_way}
use Rattle.queue.proofs.Onward.{Onward, way_on, each_on, tail_chain, apart_words, lag_words, refilled_still, still_stays}

-- Tail moves from x to the node behind it, y.
module _ (t : ℕ) (V V' : View) (xs : List ℕ) (h : Line t V tt xs) (x y : ℕ) (ox : Owned V t x) (oy : Owned V t y) (behind : V.word (64 + x) ≡ y) (at : V.word (2 * t + 1) ≡ x) (w : Wrote V V' (2 * t + 1) y) where
  tail_keeps : (c : ℕ) → Owned V t c → Owned V' t c
  tail_keeps c = owned_kept t c V V' w.nodes

  tail_words : (c : ℕ) → Owned V t c → V'.word (64 + c) ≡ V.word (64 + c)
  tail_words c o = w.there (64 + c) (omega (arith, h.tray))

  tail_head : V'.word (2 * t) ≡ V.word (2 * t)
  tail_head = w.there (2 * t) (omega arith)

  tail_step : Leads V' t (V.word (2 * t + 1)) (V'.word (2 * t + 1))
  tail_step =
      let on : Leads V' t x y = leads_on V' t here (tail_keeps x ox) (tail_words x ox ∙ behind) (λ z. omega (arith, oy.positive, z)) in
      subst (λ a. Leads V' t a (V'.word (2 * t + 1))) (sym at) (subst (λ b. Leads V' t x b) (sym w.here) on)

  tail_not_head : V.word (2 * t) ≢ y
  tail_not_head e =
      no_circle V t (V.word (2 * t)) h.lead xs h.chain
      (circle V t h.tail (subst (Owned V t) (sym at) ox) (ap (λ k. V.word (64 + k)) at ∙ behind ∙ sym e) (λ z. omega (arith, h.chain.0.positive, z)))

  tail_onward : Onward t V V'
  tail_onward = record {
    owned = tail_keeps;
    grows = omega (arith, w.nodes.taken);
    nexts = λ c o ne. tail_words c o;
    parcels = λ a b r e o. w.nodes.parcels (suc b);
    head = leads_eq V' t _ _ tail_head;
    tail = tail_step;
    tails = λ a z r q is ne e. tail_not_head (sym tail_head ∙ is ∙ sym e ∙ w.here);
  }

  tail_lag : (V.word (64 + V.word (2 * t + 1)) ≡ 0) ⊎ (V.word (64 + V.word (64 + V.word (2 * t + 1))) ≡ 0) → V'.word (64 + y) ≡ 0
  tail_lag (inl e) = absurd (omega (arith, oy.positive, sym behind ∙ sym (ap (λ k. V.word (64 + k)) at) ∙ e))
  tail_lag (inr e) = tail_words y oy ∙ ap (λ k. V.word (64 + k)) (sym behind) ∙ ap (λ k. V.word (64 + V.word (64 + k))) (sym at) ∙ e

  tail_line : Line t V' tt xs
  tail_line = record {
    tray = h.tray;
    lead = h.lead;
    chain = subst (λ a. Chain (Owned V' t) V' a (h.lead ∷ xs)) (sym tail_head)
        (chain_kept (Owned V t) (Owned V' t) V V' (record { still = tail_keeps; words = tail_words; parcels = λ c o. w.nodes.parcels c }) _ (h.lead ∷ xs) h.chain);
    tail = subst (λ a. Leads V' t a (V'.word (2 * t + 1))) (sym tail_head) (leads_join V' t (way_on t V V' tail_onward h.tail) tail_step);
    lag = inl (subst (λ a. V'.word (64 + a) ≡ 0) (sym w.here) (tail_lag h.lag));
  }

  pub tail_stays : (n : ℕ) (e : Slot) → Fits V t e → Each queue_way t V tt e → Stays queue_way t V V' tt xs n e
  tail_stays n e f own =
      let each : (r : Slot) → Fits V t r → Each queue_way t V tt r → Each queue_way t V' tt r = λ r q. each_on t V V' tail_onward r q (λ k o is. apart_words t V V' xs tail_head tail_words h k o) in
      record { aux = tt; shape = tail_line; own = each e f own; others = λ r q a. each r q }

-- Head moves from x to the node behind it, y, and tail was not there.
module _ (t : ℕ) (V V' : View) (x y : ℕ) (ox : Owned V t x) (oy : Owned V t y) (behind : V.word (64 + x) ≡ y) (at : V.word (2 * t) ≡ x) (w : Wrote V V' (2 * t) y) where
  head_keeps : (c : ℕ) → Owned V t c → Owned V' t c
  head_keeps c = owned_kept t c V V' w.nodes

  head_behind : V.word (64 + V.word (2 * t)) ≡ y
  head_behind = ap (λ k. V.word (64 + k)) at ∙ behind

  module _ (xs : List ℕ) (h : Line t V tt xs) where
    head_words : (c : ℕ) → Owned V t c → V'.word (64 + c) ≡ V.word (64 + c)
    head_words c o = w.there (64 + c) (omega (arith, h.tray))

    head_tail : V'.word (2 * t + 1) ≡ V.word (2 * t + 1)
    head_tail = w.there (2 * t + 1) (omega arith)

    head_step : Leads V' t (V.word (2 * t)) (V'.word (2 * t))
    head_step =
        let on : Leads V' t x y = leads_on V' t here (head_keeps x ox) (head_words x ox ∙ behind) (λ z. omega (arith, oy.positive, z)) in
        subst (λ a. Leads V' t a (V'.word (2 * t))) (sym at) (subst (λ b. Leads V' t x b) (sym w.here) on)

    head_onward : Onward t V V'
    head_onward = record {
      owned = head_keeps;
      grows = omega (arith, w.nodes.taken);
      nexts = λ c o ne. head_words c o;
      parcels = λ a b r e o. w.nodes.parcels (suc b);
      head = head_step;
      tail = leads_eq V' t _ _ head_tail;
      tails = λ a z r q is ne e. no_circle V t (V.word (2 * t)) h.lead xs h.chain (subst (λ k. Leads V t k (V.word (2 * t))) (sym (head_behind ∙ sym w.here ∙ is)) r);
    }

    -- a put's node is not behind head either
    head_apart : (p : ℕ) (ps : List ℕ) → Chain (Owned V t) V y (p ∷ ps) → (n : ℕ) → Owned V t n → Apart V t n → Apart V' t n
    head_apart p ps c n o a = record {
      off = λ r. a.off (step h.chain.0 (λ z. omega (arith, oy.positive, sym head_behind ∙ z))
          (subst (λ k. Leads V t k n) (sym head_behind) (leads_back t V V' head_words p ps (subst (λ k. Leads V' t k n) w.here r) c)));
      blank = head_words n o ∙ a.blank;
    }

  pub head_takes : (xs : List ℕ) → Line t V tt xs → V.word (2 * t + 1) ≢ x → (ys : List ℕ) × (xs ≡ V.parcel y ∷ ys) × Stays queue_way t V V' tt ys 0 idle
  head_takes [] h ne = absurd (omega (arith, oy.positive, head_behind, h.chain.2))
  head_takes (p ∷ ps) h ne =
      let c : Chain (Owned V t) V y (p ∷ ps) = subst (λ k. Chain (Owned V t) V k (p ∷ ps)) head_behind h.chain.2 in
      let past : Leads V t y (V.word (2 * t + 1)) = subst (λ k. Leads V t k (V.word (2 * t + 1))) head_behind (leads_past V t h.tail (λ e. ne (e ∙ at))) in
      let k = tail_chain t V (p ∷ ps) h in (
        ps,
        ap (λ q. q ∷ ps) (sym c.1),
        record {
          aux = tt;
          shape = record {
            tray = h.tray;
            lead = p;
            chain = subst (λ a. Chain (Owned V' t) V' a (p ∷ ps)) (sym w.here)
                (chain_kept (Owned V t) (Owned V' t) V V' (record { still = head_keeps; words = head_words (p ∷ ps) h; parcels = λ c o. w.nodes.parcels c }) y (p ∷ ps) c);
            tail = subst (λ a. Leads V' t a (V'.word (2 * t + 1))) (sym w.here) (subst (λ b. Leads V' t y b) (sym (head_tail (p ∷ ps) h)) (way_on t V V' (head_onward (p ∷ ps) h) past));
            lag = subst (λ a. (V'.word (64 + a) ≡ 0) ⊎ (V'.word (64 + V'.word (64 + a)) ≡ 0)) (sym (head_tail (p ∷ ps) h)) (lag_words t V V' (head_words (p ∷ ps) h) _ k.0 k.1 k.2 h.lag);
          };
          own = tt;
          others = λ r f a. each_on t V V' (head_onward (p ∷ ps) h) r f (λ n o is. head_apart (p ∷ ps) h p ps c n o);
        },
      )

-- Node n is linked behind x, where tail is.
module _ (t : ℕ) (V V' : View) (xs : List ℕ) (h : Line t V tt xs) (x n : ℕ) (ox : Owned V t x) (on : Owned V t n) (way : Leads V t x (V.word (2 * t + 1))) (a : Apart V t n) (end : V.word (64 + x) ≡ 0) (w : Wrote V V' (64 + x) n) where
  is_tail : x ≡ V.word (2 * t + 1)
  is_tail = leads_end V t way end

  reached : Leads V t (V.word (2 * t)) x
  reached = subst (λ k. Leads V t (V.word (2 * t)) k) (sym is_tail) h.tail

  not_x : n ≢ x
  not_x e = a.off (subst (λ k. Leads V t (V.word (2 * t)) k) (sym e) reached)

  link_head : V'.word (2 * t) ≡ V.word (2 * t)
  link_head = w.there (2 * t) (omega (arith, h.tray))

  link_tail : V'.word (2 * t + 1) ≡ V.word (2 * t + 1)
  link_tail = w.there (2 * t + 1) (omega (arith, h.tray))

  link_onward : Onward t V V'
  link_onward = record {
    owned = linked_owned t V V' x n w end a.blank not_x on;
    grows = omega (arith, w.nodes.taken);
    nexts = λ c o. linked_nexts t V V' x n w end a.blank not_x on c;
    parcels = λ b c r e o. w.nodes.parcels (suc c);
    head = leads_eq V' t _ _ link_head;
    tail = leads_eq V' t _ _ link_tail;
    tails = λ y z r q is ne e. q (sym link_head ∙ is) ne (sym link_tail ∙ e);
  }

  link_line : Line t V' tt (xs ++ (V.parcel n ∷ []))
  link_line = record {
    tray = h.tray;
    lead = h.lead;
    chain = subst (λ k. Chain (Owned V' t) V' k (h.lead ∷ (xs ++ (V.parcel n ∷ [])))) (sym link_head) (chain_linked t V V' x n w end a.blank not_x on (V.word (2 * t)) h.lead xs reached h.chain);
    tail = subst (λ k. Leads V' t k (V'.word (2 * t + 1))) (sym link_head) (subst (λ k. Leads V' t (V.word (2 * t)) k) (sym link_tail) (way_on t V V' link_onward h.tail));
    lag = inr (ap (λ k. V'.word (64 + k)) (ap (λ k. V'.word (64 + k)) (link_tail ∙ sym is_tail) ∙ w.here) ∙ blank_still t V V' x n w end a.blank not_x on);
  }

  link_apart : (k : ℕ) → (k ≡ n → n ≡ 0) → Apart V t k → Apart V' t k
  link_apart k ne q = record {
    off = λ r. split (leads_linked t V V' x n w end a.blank not_x on h.lead xs (subst (λ j. Leads V' t j k) link_head r) h.chain);
    blank = w.there (64 + k) (λ e. q.off (subst (λ j. Leads V t (V.word (2 * t)) j) (omega (arith, e)) reached)) ∙ q.blank;
  }
    where
      split : Leads V t (V.word (2 * t)) k ⊎ (k ≡ n) → ⊥
      split (inl i) = q.off i
      split (inr e) = let z : n ≡ 0 = ne e in omega (arith, on.positive)

  pub link_stays : (m : Notes) → m.one ≡ x → Stays queue_way t V V' tt (xs ++ (V.parcel n ∷ [])) n (rests n m)
  link_stays m is = record {
    aux = tt;
    shape = link_line;
    own = record { behind = subst (Owned V' t) (sym is) (link_onward.owned x ox); owned = link_onward.owned n on; next = ap (λ k. V'.word (64 + k)) is ∙ w.here };
    others = λ r f ne. each_on t V V' link_onward r f (λ k o q. link_apart k (λ e. ne (q ∙ e)));
  }

-- A node of a put that is not linked is not the one behind a node that was the head, nor such a node.
pub apart_head : (V : View) (t x n : ℕ) → Leads V t x (V.word (2 * t)) → Apart V t n → x ≢ n
apart_head V t x n r a e = a.off (subst (λ k. Leads V t k n) (leads_end V t r (ap (λ k. V.word (64 + k)) e ∙ a.blank)) (leads_eq V t x n (sym e)))

pub apart_next : (V : View) (t x y n : ℕ) → Owned V t (V.word (2 * t)) → Leads V t x (V.word (2 * t)) → V.word (64 + x) ≡ suc y → Apart V t n → suc y ≢ n
apart_next V t x y n o here e a is = a.off (leads_on V t here o (e ∙ is) (λ z. omega (arith, is, z)))
apart_next V t x y n o (step q ne r) e a is = apart_head V t _ n r a (e ∙ is)

-- Nor a node that was the tail.
pub apart_tail : (V : View) (t x n : ℕ) → Leads V t (V.word (2 * t)) (V.word (2 * t + 1)) → Leads V t x (V.word (2 * t + 1)) → Apart V t n → x ≢ n
apart_tail V t x n h r a e = a.off (subst (λ k. Leads V t (V.word (2 * t)) k) (sym (leads_end V t r (ap (λ k. V.word (64 + k)) e ∙ a.blank)) ∙ e) h)

-- A node of a put that is not linked gets another parcel.
pub refilled_stays : (t n : ℕ) (V V' : View) (xs : List ℕ) → Refilled n V V' → Owned V t n → Line t V tt xs → Apart V t n → Stays queue_way t V V' tt xs n (parked n)
refilled_stays t n V V' xs w o h a =
    still_stays t V V' (λ c. c ≢ n) (refilled_still t n V V' w) xs h
    (record { chain = chain_off V t (V.word (2 * t)) n (h.lead ∷ xs) a.off h.chain; behind = λ x y r e. apart_next V t x y n h.chain.0 r e a })
    n (parked n) o a

-- A fresh node is nowhere in the queue.
pub took_apart : (t n : ℕ) (V V' : View) (xs : List ℕ) → Took t n V V' → Line t V tt xs → Apart V' t n
took_apart t n V V' xs w h = record {
  off = λ r.
      let before : Leads V t (V.word (2 * t)) n = leads_back t V V' (λ c o. w.words (64 + c)) h.lead xs (subst (λ k. Leads V' t k n) (w.words (2 * t)) r) h.chain in
      let k = leads_chain V t h.lead xs before h.chain in
      omega (arith, k.2.0.taken, w.fresh);
  blank = w.words (64 + n) ∙ w.blank;
}
