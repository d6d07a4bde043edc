-- The requests at a tray as one of them turns: what is held then.
use Rattle.std.proofs.Common.{◌≡◌, ℕ, ◌≤◌, ◌≢◌, ◌⊎◌, List, sym, refl, ap, ◌∙◌, subst, inl, inr, arith}
use native.Mathlib.Decide.{ℕ_discrete}
use Rattle.kinds.specs.Views.{View, Owned, Elsewhere, NodesKept, Same, Took, Refilled}
use Rattle.kinds.specs.Plans.{Slot, idle, parked, puts, rests, takes, Requests, Turns}
use Rattle.kinds.proofs.Ways.{Way, Each, node, Fits, Held}
use Rattle.kinds.proofs.Steady.{Stays}

-- Nothing changed, so nothing of the tray's did.
pub same_elsewhere : (t : ℕ) (V V' : View) → Same V V' → Elsewhere t V V'
same_elsewhere t V V' h = record {
  words = λ a _. h.words a;
  parcels = λ n _. h.nodes.parcels n;
  kept = λ n k. record { positive = k.positive; taken = rw h.nodes.taken k.taken; mine = h.nodes.owns n ∙ k.mine };
  none_new = λ n k. record { positive = k.positive; taken = rw h.nodes.taken at k.taken; mine = sym (h.nodes.owns n) ∙ k.mine };
  grows = omega (arith, h.nodes.taken);
}

-- A tray's nodes stay its own over what keeps the nodes, gives one another parcel, or takes one more.
pub owned_kept : (t n : ℕ) (V V' : View) → NodesKept V V' → Owned V t n → Owned V' t n
owned_kept t n V V' h k = record { positive = k.positive; taken = rw h.taken k.taken; mine = h.owns n ∙ k.mine }

pub refilled_kept : (t n : ℕ) (V V' : View) → Refilled n V V' → (m : ℕ) → Owned V t m → Owned V' t m
refilled_kept t n V V' h m k = record { positive = k.positive; taken = rw h.taken k.taken; mine = h.owns m ∙ k.mine }

pub took_kept : (t n : ℕ) (V V' : View) → Took t n V V' → (m : ℕ) → Owned V t m → Owned V' t m
took_kept t n V V' h m k = record { positive = k.positive; taken = omega (arith, h.taken, h.fresh, k.taken); mine = h.owns m (omega (arith, h.fresh, k.taken)) ∙ k.mine }

pub took_owned : (t n : ℕ) (V V' : View) → Took t n V V' → Owned V' t n
took_owned t n V V' h = record { positive = omega (arith, h.fresh); taken = omega (arith, h.taken); mine = h.mine }

-- every slot, from the one that turned and the others
pub turned : (A : Slot → Type 0) {E E' : Requests} {s : ℕ} {e : Slot} → Turns E E' s e → A e → ((r : ℕ) → r ≢ s → A (E r)) → (r : ℕ) → A (E' r)
turned A {E} {E'} {s} {e} h own others r = go (ℕ_discrete r s)
  where
    go : Dec (r ≡ s) → A (E' r)
    go (yes p) = subst A (sym (ap E' p ∙ h.here)) own
    go (no n) = subst A (sym (h.there r n)) (others r n)

pub fits_kept : (t : ℕ) (V V' : View) → ((n : ℕ) → Owned V t n → Owned V' t n) → (e : Slot) → Fits V t e → Fits V' t e
fits_kept t V V' k idle f = tt
fits_kept t V V' k (parked n) f = k n f
fits_kept t V V' k (puts n m) f = k n f
fits_kept t V V' k (rests n m) f = tt
fits_kept t V V' k (takes m b) f = tt

-- No two puts have the same node, still, where the one that turned keeps its own or has one that nobody has.
pub apart_still : {E E' : Requests} {s : ℕ} {e : Slot} → Turns E E' s e → ((q r : ℕ) → q ≢ r → node (E q) ≡ node (E r) → node (E q) ≡ 0) →
    ((r : ℕ) → r ≢ s → node (E r) ≡ node e → node e ≡ 0) → (q r : ℕ) → q ≢ r → node (E' q) ≡ node (E' r) → node (E' q) ≡ 0
apart_still {E} {E'} {s} {e} h old lone q r ne eq = go (ℕ_discrete q s) (ℕ_discrete r s)
  where
    go : Dec (q ≡ s) → Dec (r ≡ s) → node (E' q) ≡ 0
    go (yes a) (yes b) = absurd (ne (a ∙ sym b))
    go (yes a) (no b) =
        let z : E' q ≡ e = ap E' a ∙ h.here in
        ap node z ∙ lone r b (ap node (sym (h.there r b)) ∙ sym eq ∙ ap node z)
    go (no a) (yes b) =
        let z : E' r ≡ e = ap E' b ∙ h.here in
        let k : node (E q) ≡ node e = ap node (sym (h.there q a)) ∙ eq ∙ ap node z in
        ap node (h.there q a) ∙ k ∙ lone q a k
    go (no a) (no b) = ap node (h.there q a) ∙ old q r ne (ap node (sym (h.there q a)) ∙ eq ∙ ap node (h.there r b))

pub node_taken : (V : View) (t : ℕ) (e : Slot) → Fits V t e → node e ≤ V.taken
node_taken V t idle f = omega arith
node_taken V t (parked n) f = f.taken
node_taken V t (puts n m) f = f.taken
node_taken V t (rests n m) f = omega arith
node_taken V t (takes m b) f = omega arith

-- What is held after a step, with the parcels that are there then.
abbrev pub Holding : (W : Way) → ℕ → View → Requests → List ℕ → Type 0
Holding W t V E xs = (k : Held W t V E) × (k.parcels ≡ xs)

module _ (W : Way) (t : ℕ) where
  -- what holds of the request s
  pub of_slot : (V : View) (E : Requests) (s : ℕ) (e : Slot) (h : Held W t V E) → E s ≡ e → Each W t V h.aux e
  of_slot V E s e h is = subst (Each W t V h.aux) is (h.each s)

  pub fits_slot : (V : View) (E : Requests) (s : ℕ) (e : Slot) (h : Held W t V E) → E s ≡ e → Fits V t e
  fits_slot V E s e h is = subst (Fits V t) is (h.fits s)

  -- What s had to itself nobody else has.
  mine_of : (V : View) (E : Requests) (s : ℕ) (e : Slot) (h : Held W t V E) → E s ≡ e → (r : ℕ) → r ≢ s → node (E r) ≡ node e → node e ≡ 0
  mine_of V E s e h is r ne eq = ap node (sym is) ∙ h.apart s r (λ q. ne (sym q)) (ap node is ∙ sym eq)

  -- The request s, which had node n to itself, has turned into e.
  pub after : (V V' : View) (E E' : Requests) (ys : List ℕ) (s n : ℕ) (e : Slot) (h : Held W t V E) →
      ((n : ℕ) → Owned V t n → Owned V' t n) → Fits V' t e → ((r : ℕ) → r ≢ s → node (E r) ≡ n → n ≡ 0) →
      ((r : ℕ) → r ≢ s → node (E r) ≡ node e → node e ≡ 0) →
      Stays W t V V' h.aux ys n e → Turns E E' s e → Holding W t V' E' ys
  after V V' E E' ys s n e h kept fit mine lone st turn = (
    record {
      aux = st.aux;
      parcels = ys;
      shape = st.shape;
      each = turned (Each W t V' st.aux) turn st.own (λ r ne. st.others (E r) (h.fits r) (mine r ne) (h.each r));
      fits = turned (Fits V' t) turn fit (λ r ne. fits_kept t V V' kept (E r) (h.fits r));
      apart = apart_still turn h.apart lone;
    },
    refl,
  )

  -- An act of the request s, which was d and becomes e, and keeps its node or lets it go.
  pub acted : (V V' : View) (E E' : Requests) (ys : List ℕ) (s : ℕ) (d e : Slot) (h : Held W t V E) → E s ≡ d →
      ((n : ℕ) → Owned V t n → Owned V' t n) → (Fits V t d → Fits V' t e) → (node e ≡ node d) ⊎ (node e ≡ 0) →
      Stays W t V V' h.aux ys (node d) e → Turns E E' s e → Holding W t V' E' ys
  acted V V' E E' ys s d e h is kept fit keeps st turn =
      after V V' E E' ys s (node d) e h kept (fit (fits_slot V E s d h is)) (mine_of V E s d h is) (lone keeps) st turn
    where
      lone : (node e ≡ node d) ⊎ (node e ≡ 0) → (r : ℕ) → r ≢ s → node (E r) ≡ node e → node e ≡ 0
      lone (inl k) r ne eq = k ∙ mine_of V E s d h is r ne (eq ∙ k)
      lone (inr z) r ne eq = z

  -- The request s turns, and nothing else changes.
  pub turns_only : (V : View) (E E' : Requests) (s : ℕ) (d e : Slot) (h : Held W t V E) → E s ≡ d →
      (Fits V t d → Fits V t e) → (node e ≡ node d) ⊎ (node e ≡ 0) → Each W t V h.aux e → Turns E E' s e → Holding W t V E' h.parcels
  turns_only V E E' s d e h is fit keeps own turn =
      acted V V E E' h.parcels s d e h is (λ n k. k) fit keeps (record { aux = h.aux; shape = h.shape; own = own; others = λ r f a x. x }) turn
