-- Of everything that can have come about, for every kind: the nodes of puts are the tray's, and no two puts have the same one.
use Rattle.std.proofs.Common.{◌≡◌, ℕ, ◌≢◌, ◌⊎◌, sym, refl, ap, ◌∙◌, subst, inl, inr, arith}
use native.Mathlib.Decide.{ℕ_discrete}
use Rattle.records.specs.declared.entries.Swap.{Swap}
use Rattle.kinds.specs.Views.{View, Owned, Took}
use Rattle.kinds.specs.Plans.{Plan, start, Slot, idle, parked, puts, rests, takes, Requests, Turns, Private, Swapped, did, did_not}
use Rattle.kinds.specs.Runs.{Quiet, elsewhere, take_starts, take_again, put_gets_node, put_refilled, put_starts, put_parks, put_reads, take_reads, put_tidies, take_tidies, last_tidies, forgotten, Puts, put_commits, Takes, take_commits, Reached, opened, quietly, by_put, by_take}
use Rattle.kinds.proofs.Ways.{node, Fits}
use Rattle.kinds.proofs.Held.{owned_kept, refilled_kept, took_kept, took_owned, turned, fits_kept, apart_still, node_taken}

record Owning (t : ℕ) (V : View) (E : Requests) : Type 0 where
  fits : (s : ℕ) → Fits V t (E s)
  apart : (s r : ℕ) → s ≢ r → node (E s) ≡ node (E r) → node (E s) ≡ 0

-- The request s, which was d, becomes e, with the same node or none.
turns : (t : ℕ) (V V' : View) (E E' : Requests) (s : ℕ) (d e : Slot) → Owning t V E → E s ≡ d → ((n : ℕ) → Owned V t n → Owned V' t n) → (Fits V t d → Fits V t e) → (node e ≡ node d) ⊎ (node e ≡ 0) → Turns E E' s e → Owning t V' E'
turns t V V' E E' s d e h is kept fit keeps turn = record {
  fits = turned (Fits V' t) turn (fits_kept t V V' kept e (fit (subst (Fits V t) is (h.fits s)))) (λ r ne. fits_kept t V V' kept (E r) (h.fits r));
  apart = apart_still turn h.apart (lone keeps);
}
  where
    lone : (node e ≡ node d) ⊎ (node e ≡ 0) → (r : ℕ) → r ≢ s → node (E r) ≡ node e → node e ≡ 0
    lone (inl k) r ne eq = k ∙ ap node (sym is) ∙ h.apart s r (λ q. ne (sym q)) (ap node is ∙ sym (eq ∙ k))
    lone (inr z) r ne eq = z

swapped_kept : (t : ℕ) (V V' : View) (w : Swap) → Swapped V V' w → (n : ℕ) → Owned V t n → Owned V' t n
swapped_kept t V V' w (did eq wr) n = owned_kept t n V V' wr.nodes
swapped_kept t V V' w (did_not same) n = owned_kept t n V V' same.nodes

module _ (P : Plan) (t : ℕ) where
  gets : (V V' : View) (E E' : Requests) (s n : ℕ) → Owning t V E → Took t n V V' → Turns E E' s (parked n) → Owning t V' E'
  gets V V' E E' s n h took turn = record {
    fits = turned (Fits V' t) turn (took_owned t n V V' took) (λ r ne. fits_kept t V V' (took_kept t n V V' took) (E r) (h.fits r));
    apart = apart_still turn h.apart (λ r ne eq. absurd (omega (arith, node_taken V t (E r) (h.fits r), eq, took.fresh)));
  }

  quiet_owning : {V V' : View} {E E' : Requests} → Owning t V E → Quiet P t V E V' E' → Owning t V' E'
  quiet_owning {V} {V'} {E} h (elsewhere w) = record { fits = λ s. fits_kept t V V' w.kept (E s) (h.fits s); apart = h.apart }
  quiet_owning {V} {V'} {E} {E'} h (take_starts s is turn) = turns t V V E E' s idle (takes start _) h is (λ n k. k) (λ f. tt) (inr refl) turn
  quiet_owning {V} {V'} {E} {E'} h (take_again s m b is turn) = turns t V V E E' s (takes m b) (takes start b) h is (λ n k. k) (λ f. tt) (inr refl) turn
  quiet_owning {V} {V'} {E} {E'} h (put_gets_node s n is took turn) = gets V V' E E' s n h took turn
  quiet_owning {V} {V'} {E} h (put_refilled s n is re) = record { fits = λ s. fits_kept t V V' (refilled_kept t n V V' re) (E s) (h.fits s); apart = h.apart }
  quiet_owning {V} {V'} {E} {E'} h (put_starts s n is turn) = turns t V V E E' s (parked n) (puts n start) h is (λ n k. k) (λ f. f) (inl refl) turn
  quiet_owning {V} {V'} {E} {E'} h (put_parks s n m is turn) = turns t V V E E' s (puts n m) (parked n) h is (λ n k. k) (λ f. f) (inl refl) turn
  quiet_owning {V} {V'} {E} {E'} h (put_reads s n m a is act wr turn) = turns t V V' E E' s (puts n m) _ h is (λ k. owned_kept t k V V' wr.nodes) (λ f. f) (inl refl) turn
  quiet_owning {V} {V'} {E} {E'} h (take_reads s m b a is act turn) = turns t V V E E' s (takes m b) _ h is (λ n k. k) (λ f. tt) (inr refl) turn
  quiet_owning {V} {V'} {E} {E'} h (put_tidies s n m w is act sw turn) = turns t V V' E E' s (puts n m) _ h is (swapped_kept t V V' w sw) (λ f. f) (inl refl) turn
  quiet_owning {V} {V'} {E} {E'} h (take_tidies s m b w is act sw turn) = turns t V V' E E' s (takes m b) _ h is (swapped_kept t V V' w sw) (λ f. tt) (inr refl) turn
  quiet_owning {V} {V'} {E} {E'} h (last_tidies s n m w is act sw turn) = turns t V V' E E' s (rests n m) idle h is (swapped_kept t V V' w sw) (λ f. tt) (inr refl) turn
  quiet_owning {V} {V'} {E} {E'} h (forgotten s turn) = turns t V V E E' s (E s) idle h refl (λ n k. k) (λ f. tt) (inr refl) turn

  puts_owning : {V V' : View} {E E' : Requests} {x : ℕ} → Owning t V E → Puts P t V E x V' E' → Owning t V' E'
  puts_owning {V} {V'} {E} {E'} h (put_commits s n m w is act eq wr turn) = turns t V V' E E' s (puts n m) (rests n m) h is (λ k. owned_kept t k V V' wr.nodes) (λ f. tt) (inr refl) turn

  takes_owning : {V V' : View} {E E' : Requests} {x : ℕ} → Owning t V E → Takes P t V E x V' E' → Owning t V' E'
  takes_owning {V} {V'} {E} {E'} h (take_commits s m b w x is act eq wr turn) = turns t V V' E E' s (takes m b) idle h is (λ k. owned_kept t k V V' wr.nodes) (λ f. tt) (inr refl) turn

  owning : {V : View} {E : Requests} → Reached P t V E → Owning t V E
  owning {V} {E} (opened n o idles) = record { fits = λ s. subst (Fits V t) (sym (idles s)) tt; apart = λ s r ne eq. ap node (idles s) }
  owning (quietly r q) = quiet_owning (owning r) q
  owning (by_put r p) = puts_owning (owning r) p
  owning (by_take r p) = takes_owning (owning r) p

  private_node : (V : View) (e : Slot) (n : ℕ) → Private e n → Fits V t e → (node e ≡ n) × Owned V t n
  private_node V idle n p f = absurd p
  private_node V (parked k) n p f = (p, subst (Owned V t) p f)
  private_node V (puts k m) n p f = (p, subst (Owned V t) p f)
  private_node V (rests k m) n p f = absurd p
  private_node V (takes m b) n p f = absurd p

  -- a node that a put has to itself is the tray's
  pub private_owned : {V : View} {E : Requests} → Reached P t V E → (s n : ℕ) → Private (E s) n → Owned V t n
  private_owned {V} {E} r s n p = (private_node V (E s) n p ((owning r).fits s)).1

  -- and no other put has it
  pub private_alone : {V : View} {E : Requests} → Reached P t V E → (s q n : ℕ) → Private (E s) n → Private (E q) n → s ≡ q
  private_alone {V} {E} r s q n a b = go (ℕ_discrete s q)
    where
      go : Dec (s ≡ q) → s ≡ q
      go (yes e) = e
      go (no ne) =
          let i = private_node V (E s) n a ((owning r).fits s) in
          let j = private_node V (E q) n b ((owning r).fits q) in
          let z : node (E s) ≡ 0 = (owning r).apart s q ne (i.0 ∙ sym j.0) in
          absurd (omega (arith, i.1.positive, i.0, z))
