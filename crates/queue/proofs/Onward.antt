-- How memory goes on, as a request at a queue sees it.
use Rattle.std.specs.Prelude.{◌≡◌, ℕ, zero, suc, ◌+◌, ◌*◌, ◌≤◌, Bool, true, ◌≢◌, ◌⊎◌, List, [], ◌∷◌, refl}
use Rattle.std.proofs.Common.{sym, ap, subst, ◌∙◌, inl, inr, arith}
use Rattle.kinds.specs.Views.{View, Owned, at_first, at_second, at_next, Elsewhere, Same, Took, Refilled}
use Rattle.kinds.specs.Plans.{Slot, idle, parked, puts, rests, takes}
use Rattle.kinds.proofs.Ways.{Each, node, Fits}
use Rattle.kinds.proofs.Steady.{Stays}
use Rattle.kinds.proofs.Held.{same_elsewhere, refilled_kept, took_kept}
use Rattle.kinds.proofs.Chains.{Chain, chain_kept}
use Rattle.queue.proofs.Leads.{Leads, leads_eq, leads_join, leads_chain, leads_kept, leads_back}
use Rattle.queue.proofs.Facts.{Line, NextNoted, ParcelNoted, PutNoted, TailNoted, TakeNoted, Apart, queue_way}

-- Next words that are not nil stay, and head and tail only go forward.
pub record Onward (t : ℕ) (V V' : View) : Type 0 where
  pub owned : (c : ℕ) → Owned V t c → Owned V' t c
  pub grows : V.taken ≤ V'.taken
  pub nexts : (c : ℕ) → Owned V t c → V.word (64 + c) ≢ 0 → V'.word (64 + c) ≡ V.word (64 + c)
  -- the parcel behind a node that was the head stays
  pub parcels : (x y : ℕ) → Leads V t x (V.word (2 * t)) → V.word (64 + x) ≡ suc y → Owned V t (suc y) → V'.parcel (suc y) ≡ V.parcel (suc y)
  pub head : Leads V' t (V.word (2 * t)) (V'.word (2 * t))
  pub tail : Leads V' t (V.word (2 * t + 1)) (V'.word (2 * t + 1))
  -- head does not come back to a node, and tail does not come back to head
  pub tails : (x z : ℕ) → Leads V t x (V.word (2 * t)) → TailNoted V t x z → TailNoted V' t x z

module _ (t : ℕ) (V V' : View) (w : Onward t V V') where
  pub way_on : {a b : ℕ} → Leads V t a b → Leads V' t a b
  way_on = leads_kept t V V' w.owned w.nexts

  next_on : (x y : ℕ) (Q : Type 0) → Owned V t x → NextNoted V t x y Q → NextNoted V' t x y Q
  next_on x zero Q o h = h
  next_on x (suc y) Q o h = (w.nexts x o (omega (arith, h.0)) ∙ h.0, w.owned (suc y) h.1)

  parcel_on : (x y p : ℕ) (Q : Type 0) → Leads V t x (V.word (2 * t)) → NextNoted V t x y Q → ParcelNoted V y p → ParcelNoted V' y p
  parcel_on x zero p Q r k h = tt
  parcel_on x (suc y) p Q r k h = w.parcels x y r k.0 k.1 ∙ h

  pub put_on : (k x y : ℕ) → PutNoted V t k x y → PutNoted V' t k x y
  put_on zero x y h = omega (arith, w.grows, h)
  put_on (suc zero) x y h = (w.owned x h.0, leads_join V' t (way_on h.1) w.tail)
  put_on (suc (suc k)) x y h = (w.owned x h.0, leads_join V' t (way_on h.1) w.tail, next_on x y (Unit {0}) h.0 h.2)

  pub take_on : (k x z y p : ℕ) (b : Bool) → TakeNoted V t k x z y p b → TakeNoted V' t k x z y p b
  take_on zero x z y p b h = omega (arith, w.grows, h)
  take_on (suc zero) x z y p b h = (w.owned x h.0, leads_join V' t (way_on h.1) w.head)
  take_on (suc (suc zero)) x z y p b h = (w.owned x h.0, leads_join V' t (way_on h.1) w.head, w.tails x z h.1 h.2)
  take_on (suc (suc (suc k))) x z y p b h =
      (w.owned x h.0, leads_join V' t (way_on h.1) w.head, w.tails x z h.1 h.2, next_on x y (b ≡ true) h.0 h.3, parcel_on x y p (b ≡ true) h.1 h.3 h.4)

  -- A request goes on, where the node of a put that is not linked stays apart.
  pub each_on : (e : Slot) → Fits V t e → ((n : ℕ) → Owned V t n → node e ≡ n → Apart V t n → Apart V' t n) → Each queue_way t V tt e → Each queue_way t V' tt e
  each_on idle f a h = tt
  each_on (parked n) f a h = a n f refl h
  each_on (puts n m) f a h = (a n f refl h.0, put_on m.stage m.one m.two h.1)
  each_on (takes m b) f a h = take_on m.stage m.one m.two m.three m.parcel b h
  each_on (rests n m) f a h = record { behind = w.owned _ h.behind; owned = w.owned n h.owned; next = w.nexts _ h.behind (omega (arith, h.next, h.owned.positive)) ∙ h.next }

-- Tail's node, and a chain from there.
pub tail_chain : (t : ℕ) (V : View) (xs : List ℕ) → Line t V tt xs → (y : ℕ) × (ys : List ℕ) × Chain (Owned V t) V (V.word (2 * t + 1)) (y ∷ ys)
tail_chain t V xs h = let k = leads_chain V t h.lead xs h.tail h.chain in (k.0, k.1, k.2)

-- Next words and head have stayed, so a put's node is still apart.
pub apart_words : (t : ℕ) (V V' : View) (xs : List ℕ) → V'.word (2 * t) ≡ V.word (2 * t) → ((c : ℕ) → Owned V t c → V'.word (64 + c) ≡ V.word (64 + c)) → Line t V tt xs → (n : ℕ) → Owned V t n → Apart V t n → Apart V' t n
apart_words t V V' xs head words h n o a = record {
  off = λ r. a.off (leads_back t V V' words h.lead xs (subst (λ k. Leads V' t k n) head r) h.chain);
  blank = words n o ∙ a.blank;
}

-- what stands behind tail stays
pub lag_words : (t : ℕ) (V V' : View) → ((c : ℕ) → Owned V t c → V'.word (64 + c) ≡ V.word (64 + c)) → (n : ℕ) (y : ℕ) (ys : List ℕ) → Chain (Owned V t) V n (y ∷ ys) →
    (V.word (64 + n) ≡ 0) ⊎ (V.word (64 + V.word (64 + n)) ≡ 0) → (V'.word (64 + n) ≡ 0) ⊎ (V'.word (64 + V'.word (64 + n)) ≡ 0)
lag_words t V V' words n y [] c l = inl (words n c.0 ∙ c.2)
lag_words t V V' words n y (p ∷ ps) c (inl e) = absurd (omega (arith, c.2.0.positive, e))
lag_words t V V' words n y (p ∷ ps) c (inr e) = inr (ap (λ k. V'.word (64 + k)) (words n c.0) ∙ words _ c.2.0 ∙ e)

-- The tray's words and its nodes' next words have stayed, and the parcels of the nodes of which M holds.
pub record Still (t : ℕ) (V V' : View) (M : ℕ → Type 0) : Type 0 where
  pub owned : (c : ℕ) → Owned V t c → Owned V' t c
  pub grows : V.taken ≤ V'.taken
  pub head : V'.word (2 * t) ≡ V.word (2 * t)
  pub tail : V'.word (2 * t + 1) ≡ V.word (2 * t + 1)
  pub words : (c : ℕ) → Owned V t c → V'.word (64 + c) ≡ V.word (64 + c)
  pub parcels : (c : ℕ) → Owned V t c → M c → V'.parcel c ≡ V.parcel c

-- M holds of the nodes in the queue, and of the one behind a node that was the head.
pub record Covers (t : ℕ) (V : View) (xs : List ℕ) (lead : ℕ) (M : ℕ → Type 0) : Type 0 where
  pub chain : Chain (λ c. Owned V t c × M c) V (V.word (2 * t)) (lead ∷ xs)
  pub behind : (x y : ℕ) → Leads V t x (V.word (2 * t)) → V.word (64 + x) ≡ suc y → M (suc y)

module _ (t : ℕ) (V V' : View) (M : ℕ → Type 0) (w : Still t V V' M) (xs : List ℕ) (h : Line t V tt xs) (m : Covers t V xs h.lead M) where
  pub still_onward : Onward t V V'
  still_onward = record {
    owned = w.owned;
    grows = w.grows;
    nexts = λ c o ne. w.words c o;
    parcels = λ x y r e o. w.parcels (suc y) o (m.behind x y r e);
    head = leads_eq V' t _ _ w.head;
    tail = leads_eq V' t _ _ w.tail;
    tails = λ x z r k at ne e. k (sym w.head ∙ at) ne (sym w.tail ∙ e);
  }

  pub line_still : Line t V' tt xs
  line_still =
      let k = tail_chain t V xs h in
      let way : Leads V' t (V.word (2 * t)) (V.word (2 * t + 1)) = way_on t V V' still_onward h.tail in
      record {
        tray = h.tray;
        lead = h.lead;
        chain = subst (λ a. Chain (Owned V' t) V' a (h.lead ∷ xs)) (sym w.head)
            (chain_kept (λ c. Owned V t c × M c) (Owned V' t) V V' (record { still = λ c q. w.owned c q.0; words = λ c q. w.words c q.0; parcels = λ c q. w.parcels c q.0 q.1 }) _ (h.lead ∷ xs) m.chain);
        tail = subst (λ a. Leads V' t a (V'.word (2 * t + 1))) (sym w.head) (subst (λ b. Leads V' t (V.word (2 * t)) b) (sym w.tail) way);
        lag = subst (λ a. (V'.word (64 + a) ≡ 0) ⊎ (V'.word (64 + V'.word (64 + a)) ≡ 0)) (sym w.tail) (lag_words t V V' w.words _ k.0 k.1 k.2 h.lag);
      }

  pub each_still : (e : Slot) → Fits V t e → Each queue_way t V tt e → Each queue_way t V' tt e
  each_still e f = each_on t V V' still_onward e f (λ n o is. apart_words t V V' xs w.head w.words h n o)

  -- so all is as it was, but for the request's own notes
  pub still_stays : (n : ℕ) (e : Slot) → Fits V t e → Each queue_way t V tt e → Stays queue_way t V V' tt xs n e
  still_stays n e f own = record { aux = tt; shape = line_still; own = each_still e f own; others = λ r q a. each_still r q }

-- all nodes of the tray
abbrev pub Any : ℕ → Type 0
Any n = Unit {0}

pub covers_any : (t : ℕ) (V : View) (xs : List ℕ) (h : Line t V tt xs) → Covers t V xs h.lead Any
covers_any t V xs h = record { chain = chain_kept (Owned V t) (λ c. Owned V t c × Any c) V V (record { still = λ c o. (o, tt); words = λ c o. refl; parcels = λ c o. refl }) _ (h.lead ∷ xs) h.chain; behind = λ x y r e. tt }

-- What leaves the tray's words and nodes.
pub elsewhere_still : (t : ℕ) (V V' : View) → Elsewhere t V V' → Still t V V' Any
elsewhere_still t V V' w = record {
  owned = w.kept;
  grows = w.grows;
  head = w.words (2 * t) (at_first refl);
  tail = w.words (2 * t + 1) (at_second refl);
  words = λ c o. w.words (64 + c) (at_next c o refl);
  parcels = λ c o _. w.parcels c o;
}

pub took_still : (t n : ℕ) (V V' : View) → Took t n V V' → Still t V V' Any
took_still t n V V' w = record {
  owned = took_kept t n V V' w;
  grows = omega (arith, w.fresh, w.taken);
  head = w.words (2 * t);
  tail = w.words (2 * t + 1);
  words = λ c o. w.words (64 + c);
  parcels = λ c o _. w.parcels c (omega (arith, o.taken, w.fresh));
}

pub same_still : (t : ℕ) (V V' : View) → Same V V' → Still t V V' Any
same_still t V V' w = elsewhere_still t V V' (same_elsewhere t V V' w)

pub refilled_still : (t n : ℕ) (V V' : View) → Refilled n V V' → Still t V V' (λ c. c ≢ n)
refilled_still t n V V' w = record {
  owned = refilled_kept t n V V' w;
  grows = omega (arith, w.taken);
  head = w.words (2 * t);
  tail = w.words (2 * t + 1);
  words = λ c o. w.words (64 + c);
  parcels = λ c o ne. w.parcels c ne;
}
