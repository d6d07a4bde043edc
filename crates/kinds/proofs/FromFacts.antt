-- The points of a kind, from its facts.
use Rattle.std.proofs.Common.{◌≡◌, ℕ, Bool, true, [], Some, sym, ap, ◌∙◌, subst}
use Rattle.records.specs.declared.entries.Swap.{Swap}
use Rattle.kinds.specs.declared.acts.Notes.{Notes}
use Rattle.kinds.specs.declared.acts.PutAct.{PutAct}
use Rattle.kinds.specs.declared.acts.PutAct.TheVariants.{Read as PutRead, Tidy as PutTidy, Commit as PutCommit}
use Rattle.kinds.specs.declared.acts.TakeAct.{TakeAct}
use Rattle.kinds.specs.declared.acts.TakeAct.TheVariants.{Read as TakeRead, Tidy as TakeTidy, Commit as TakeCommit, Empty}
use Rattle.kinds.specs.Views.{View}
use Rattle.kinds.specs.Plain.{adds, gives, yields}
use Rattle.kinds.specs.Plans.{Plan, start, Slot, idle, parked, puts, rests, takes, Requests, Private}
use Rattle.kinds.specs.Runs.{Quiet, Puts, Takes, Reached}
use Rattle.kinds.specs.Points.{Shared, Reads, Swaps, PutKeeps, TakeKeeps, KeptPrivate, Points}
use Rattle.kinds.proofs.Ways.{Way, Each, Fits, Held}
use Rattle.kinds.proofs.Steady.{Steady, OnEmpty, OnSwap, HeldPrivate}
use Rattle.kinds.proofs.Held.{of_slot, fits_slot}
use Rattle.kinds.proofs.Keeping.{held_quiet, held_puts, held_takes, reached_held}

-- An act that keeps off some nodes keeps off fewer.
module _ (P : Plan) (V : View) (A B : ℕ → Type 0) (t : ℕ) (less : (n : ℕ) → B n → A n) where
  fewer_shared : (a : ℕ) → Shared V A t a → Shared V B t a
  fewer_shared a h = record { mine = h.mine; unmet = λ n b. h.unmet n (less n b) }

  fewer_reads : (a : ℕ) → Reads P V A t a → Reads P V B t a
  fewer_reads a h = record { shared = fewer_shared a h.shared; peeked = h.peeked }

  fewer_swaps : (b : Bool) (w : Swap) → Swaps P V A t b w → Swaps P V B t b w
  fewer_swaps b w h = record { shared = fewer_shared w.address h.shared; old = h.old; new = h.new; calm = h.calm; apart = h.apart }

  fewer_put : (x : PutAct) → PutKeeps P V A t x → PutKeeps P V B t x
  fewer_put (PutRead a) h = fewer_reads a h
  fewer_put (PutTidy w) h = fewer_swaps _ w h
  fewer_put (PutCommit w) h = fewer_swaps _ w h

  fewer_take : (x : TakeAct) → TakeKeeps P V A t x → TakeKeeps P V B t x
  fewer_take (TakeRead a) h = fewer_reads a h
  fewer_take (TakeTidy w) h = fewer_swaps _ w h
  fewer_take (TakeCommit w x) h = fewer_swaps _ w h
  fewer_take Empty h = tt

module _ (P : Plan) (W : Way) (K : Steady P W) (t : ℕ) where
  shown : {V : View} {E : Requests} (h : Held W t V E) → P.contents t V ≡ h.parcels
  shown {V} h = K.shows t V h.aux h.parcels h.shape

  -- The nodes that puts have to themselves, by their requests, and as the facts tell them.
  private_held : {V : View} {E : Requests} (h : Held W t V E) (n : ℕ) → KeptPrivate E n → HeldPrivate W t V h.aux n
  private_held {V} {E} h n p = go (E p.0) (h.fits p.0) (h.each p.0) p.1
    where
      go : (e : Slot) → Fits V t e → Each W t V h.aux e → Private e n → HeldPrivate W t V h.aux n
      go idle f x q = absurd q
      go (parked k) f x q = subst (HeldPrivate W t V h.aux) q (f, x)
      go (puts k m) f x q = subst (HeldPrivate W t V h.aux) q (f, K.put_parks t k V h.aux h.parcels m f h.shape x)
      go (rests k m) f x q = absurd q
      go (takes m b) f x q = absurd q

  adding : {V V' : View} {E E' : Requests} {x : ℕ} → Reached P t V E → Puts P t V E x V' E' → P.contents t V' ≡ adds P.rule x (P.contents t V)
  adding {x = x} r p =
      let h = reached_held P W K t r in
      let k = held_puts P W K t h p in
      shown k.0 ∙ k.1 ∙ ap (adds P.rule x) (sym (shown h))

  giving : {V V' : View} {E E' : Requests} {x : ℕ} → Reached P t V E → Takes P t V E x V' E' → yields P.rule (P.contents t V) ≡ gives x (P.contents t V')
  giving {x = x} r p =
      let h = reached_held P W K t r in
      let k = held_takes P W K t h p in
      ap (yields P.rule) (shown h) ∙ k.1 ∙ ap (gives x) (sym (shown k.2.0 ∙ k.2.1))

  keeping : {V V' : View} {E E' : Requests} → Reached P t V E → Quiet P t V E V' E' → P.contents t V' ≡ P.contents t V
  keeping r q =
      let h = reached_held P W K t r in
      let k = held_quiet P W K t h q in
      shown k.0 ∙ k.1 ∙ sym (shown h)

  saw_empty : {V : View} {E : Requests} → Reached P t V E → (s : ℕ) (m : Notes) (b : Bool) → E s ≡ takes m b → P.take_act t m ≡ Empty → b ≡ true
  saw_empty {V} {E} r s m b is act =
      let h = reached_held P W K t r in
      subst (λ x. OnEmpty x (b ≡ true)) act (K.empty_seen t V h.aux h.parcels m b h.shape (of_slot W t V E s (takes m b) h is))

  last_in_tray : {V : View} {E : Requests} → Reached P t V E → (s n : ℕ) (m : Notes) (w : Swap) → E s ≡ rests n m → P.last_swap t n m ≡ Some w → Swaps P V (KeptPrivate E) t true w
  last_in_tray {V} {E} r s n m w is act =
      let h = reached_held P W K t r in
      fewer_swaps P V (HeldPrivate W t V h.aux) (KeptPrivate E) t (private_held h) true w
      (subst (λ x. OnSwap x (λ w. Swaps P V (HeldPrivate W t V h.aux) t true w)) act (K.last_keeps t n V h.aux h.parcels m h.shape (of_slot W t V E s (rests n m) h is)))

pub points : (P : Plan) (W : Way) → Steady P W → Points P
points P W K = record {
  rule_within = K.rule_within;
  put_adds = λ t V V' E E' x. adding P W K t;
  take_gives = λ t V V' E E' x. giving P W K t;
  others_keep = λ t V V' E E'. keeping P W K t;
  empty_seen = λ t V E. saw_empty P W K t;
  put_keeps = λ t V E r s n m is.
      let h = reached_held P W K t r in
      let k = K.put_keeps t n V h.aux h.parcels m (fits_slot W t V E s (puts n m) h is) h.shape (of_slot W t V E s (puts n m) h is) in
      (fewer_put P V (HeldPrivate W t V h.aux) (KeptPrivate E) t (private_held P W K t h) (P.put_act t n m) k.0, k.1);
  take_keeps = λ t V E r s m b is.
      let h = reached_held P W K t r in
      fewer_take P V (HeldPrivate W t V h.aux) (KeptPrivate E) t (private_held P W K t h) (P.take_act t m)
      (K.take_keeps t V h.aux h.parcels m b h.shape (of_slot W t V E s (takes m b) h is));
  last_keeps = λ t V E. last_in_tray P W K t;
  opens_empty = λ t n V o. let k = K.opens t n V o in K.shows t V k.0 [] k.1;
  opens_first = K.opens_first;
  opens_second = K.opens_second;
  put_ends = λ t V E r s n is.
      let h = reached_held P W K t r in
      K.put_ends t n V h.aux h.parcels (fits_slot W t V E s (puts n start) h is) h.shape (of_slot W t V E s (puts n start) h is);
  take_ends = λ t V E r s b is.
      let h = reached_held P W K t r in
      K.take_ends t V h.aux h.parcels b h.shape (of_slot W t V E s (takes start b) h is);
}
