-- Every step at a tray keeps what is held of the tray and of its requests.
use Rattle.std.proofs.Common.{◌≡◌, ℕ, ◌+◌, Bool, false, ◌||◌, List, [], Some, sym, refl, ap, subst, inl, inr, arith}
use Rattle.records.specs.declared.entries.Swap.{Swap}
use Rattle.kinds.specs.declared.acts.Notes.{Notes}
use Rattle.kinds.specs.declared.acts.PutAct.TheVariants.{Read as PutRead, Tidy as PutTidy}
use Rattle.kinds.specs.declared.acts.TakeAct.TheVariants.{Read as TakeRead, Tidy as TakeTidy}
use Rattle.kinds.specs.Views.{View, Owned, Elsewhere, Wrote, Took, Refilled}
use Rattle.kinds.specs.Plain.{adds, gives, yields}
use Rattle.kinds.specs.Plans.{Plan, start, found_nothing, idle, parked, puts, rests, takes, Requests, Turns, is_empty, finds, Swapped, did, did_not}
use Rattle.kinds.specs.Runs.{Opened, Quiet, elsewhere, take_starts, take_again, put_gets_node, put_refilled, put_starts, put_parks, put_reads, take_reads, put_tidies, take_tidies, last_tidies, forgotten, Puts, put_commits, Takes, take_commits, Reached, opened, quietly, by_put, by_take}
use Rattle.kinds.proofs.Ways.{Way, Each, node, Fits, Held}
use Rattle.kinds.proofs.Steady.{Steady}
use Rattle.kinds.proofs.Held.{same_elsewhere, owned_kept, refilled_kept, took_kept, took_owned, fits_kept, node_taken, Holding, of_slot, fits_slot, after, acted, turns_only}

module _ (P : Plan) (W : Way) (K : Steady P W) (t : ℕ) where
  pub held_opens : (n : ℕ) (V : View) (E : Requests) → Opened P t n V → ((s : ℕ) → E s ≡ idle) → Holding W t V E []
  held_opens n V E o idles =
      let k = K.opens t n V o in (
        record {
          aux = k.0;
          parcels = [];
          shape = k.1;
          each = λ s. subst (Each W t V k.0) (sym (idles s)) tt;
          fits = λ s. subst (Fits V t) (sym (idles s)) tt;
          apart = λ s r ne eq. ap node (idles s);
        },
        refl,
      )

  frame_held : (V V' : View) (E : Requests) (xs : List ℕ) → Elsewhere t V V' → Holding W t V E xs → Holding W t V' E xs
  frame_held V V' E xs w k =
      let h = k.0 in
      let f = K.frame t V V' h.aux h.parcels w h.shape in (
        record {
          aux = h.aux;
          parcels = h.parcels;
          shape = f.0;
          each = λ s. f.1 (E s) (h.fits s) (h.each s);
          fits = λ s. fits_kept t V V' w.kept (E s) (h.fits s);
          apart = h.apart;
        },
        k.1,
      )

  gets_node : (V V' : View) (E E' : Requests) (s n : ℕ) (h : Held W t V E) → E s ≡ idle → Took t n V V' → Turns E E' s (parked n) → Holding W t V' E' h.parcels
  gets_node V V' E E' s n h is took turn =
      after W t V V' E E' h.parcels s 0 (parked n) h (took_kept t n V V' took) (took_owned t n V V' took) (λ r ne eq. refl)
      (λ r ne eq. absurd (omega (arith, node_taken V t (E r) (h.fits r), eq, took.fresh))) (K.gets_node t n V V' h.aux h.parcels took h.shape) turn

  refills : (V V' : View) (E : Requests) (s n : ℕ) (h : Held W t V E) → E s ≡ parked n → Refilled n V V' → Holding W t V' E h.parcels
  refills V V' E s n h is re =
      let kept = refilled_kept t n V V' re in
      acted W t V V' E E h.parcels s (parked n) (parked n) h is kept (fits_kept t V V' kept (parked n)) (inl refl)
      (K.refilled t n V V' h.aux h.parcels re (fits_slot W t V E s (parked n) h is) h.shape (of_slot W t V E s (parked n) h is)) (record { here = is; there = λ r ne. refl })

  reads_put : (V V' : View) (E E' : Requests) (s n : ℕ) (m : Notes) (a : ℕ) (h : Held W t V E) → E s ≡ puts n m → P.put_act t n m ≡ PutRead a →
      Wrote V V' (64 + n) (P.fill (P.put_noted m (finds P V (V.word a)))) → Turns E E' s (puts n (P.put_noted m (finds P V (V.word a)))) → Holding W t V' E' h.parcels
  reads_put V V' E E' s n m a h is act wr turn =
      let kept : (k : ℕ) → Owned V t k → Owned V' t k = λ k. owned_kept t k V V' wr.nodes in
      acted W t V V' E E' h.parcels s (puts n m) _ h is kept (fits_kept t V V' kept (puts n m)) (inl refl)
      ((rw act at (K.put_reads t n V V' h.aux h.parcels m (fits_slot W t V E s (puts n m) h is) h.shape (of_slot W t V E s (puts n m) h is))) wr) turn

  reads_take : (V : View) (E E' : Requests) (s : ℕ) (m : Notes) (b : Bool) (a : ℕ) (h : Held W t V E) → E s ≡ takes m b → P.take_act t m ≡ TakeRead a →
      Turns E E' s (takes (P.take_noted m (finds P V (V.word a))) (b || is_empty (P.contents t V))) → Holding W t V E' h.parcels
  reads_take V E E' s m b a h is act turn =
      turns_only W t V E E' s (takes m b) _ h is (λ f. tt) (inr refl)
      (rw (K.shows t V h.aux h.parcels h.shape) (rw act at (K.take_reads t V h.aux h.parcels m b h.shape (of_slot W t V E s (takes m b) h is)))) turn

  tidies_put : (V V' : View) (E E' : Requests) (s n : ℕ) (m : Notes) (w : Swap) (h : Held W t V E) → E s ≡ puts n m → P.put_act t n m ≡ PutTidy w → Swapped V V' w →
      Turns E E' s (puts n (P.put_noted m found_nothing)) → Holding W t V' E' h.parcels
  tidies_put V V' E E' s n m w h is act (did eq wr) turn =
      let kept : (k : ℕ) → Owned V t k → Owned V' t k = λ k. owned_kept t k V V' wr.nodes in
      acted W t V V' E E' h.parcels s (puts n m) _ h is kept (fits_kept t V V' kept (puts n m)) (inl refl)
      ((rw act at (K.put_tidies t n V V' h.aux h.parcels m (fits_slot W t V E s (puts n m) h is) h.shape (of_slot W t V E s (puts n m) h is))) eq wr) turn
  tidies_put V V' E E' s n m w h is act (did_not same) turn =
      frame_held V V' E' h.parcels (same_elsewhere t V V' same)
      (turns_only W t V E E' s (puts n m) (puts n (P.put_noted m found_nothing)) h is (λ f. f) (inl refl)
      (rw act at (K.put_tidied_not t n V h.aux h.parcels m (fits_slot W t V E s (puts n m) h is) h.shape (of_slot W t V E s (puts n m) h is))) turn)

  tidies_take : (V V' : View) (E E' : Requests) (s : ℕ) (m : Notes) (b : Bool) (w : Swap) (h : Held W t V E) → E s ≡ takes m b → P.take_act t m ≡ TakeTidy w → Swapped V V' w →
      Turns E E' s (takes (P.take_noted m found_nothing) b) → Holding W t V' E' h.parcels
  tidies_take V V' E E' s m b w h is act (did eq wr) turn =
      acted W t V V' E E' h.parcels s (takes m b) _ h is (λ k. owned_kept t k V V' wr.nodes) (λ f. tt) (inr refl)
      ((rw act at (K.take_tidies t V V' h.aux h.parcels m b h.shape (of_slot W t V E s (takes m b) h is))) eq wr) turn
  tidies_take V V' E E' s m b w h is act (did_not same) turn =
      frame_held V V' E' h.parcels (same_elsewhere t V V' same)
      (turns_only W t V E E' s (takes m b) (takes (P.take_noted m found_nothing) b) h is (λ f. f) (inr refl)
      (rw act at (K.take_tidied_not t V h.aux h.parcels m b h.shape (of_slot W t V E s (takes m b) h is))) turn)

  tidies_last : (V V' : View) (E E' : Requests) (s n : ℕ) (m : Notes) (w : Swap) (h : Held W t V E) → E s ≡ rests n m → P.last_swap t n m ≡ Some w → Swapped V V' w → Turns E E' s idle → Holding W t V' E' h.parcels
  tidies_last V V' E E' s n m w h is act (did eq wr) turn =
      acted W t V V' E E' h.parcels s (rests n m) idle h is (λ k. owned_kept t k V V' wr.nodes) (λ f. tt) (inr refl)
      ((rw act at (K.last_tidies t n V V' h.aux h.parcels m h.shape (of_slot W t V E s (rests n m) h is))) eq wr) turn
  tidies_last V V' E E' s n m w h is act (did_not same) turn =
      frame_held V V' E' h.parcels (same_elsewhere t V V' same) (turns_only W t V E E' s (rests n m) idle h is (λ f. tt) (inr refl) tt turn)

  pub held_quiet : {V V' : View} {E E' : Requests} (h : Held W t V E) → Quiet P t V E V' E' → Holding W t V' E' h.parcels
  held_quiet {V} {V'} {E} h (elsewhere w) = frame_held V V' E h.parcels w (h, refl)
  held_quiet {V} {V'} {E} {E'} h (take_starts s is turn) = turns_only W t V E E' s idle (takes start false) h is (λ f. tt) (inr refl) (K.take_starts t V h.aux h.parcels h.shape) turn
  held_quiet {V} {V'} {E} {E'} h (take_again s m b is turn) =
      turns_only W t V E E' s (takes m b) (takes start b) h is (λ f. tt) (inr refl) (K.take_again t V h.aux h.parcels m b h.shape (of_slot W t V E s (takes m b) h is)) turn
  held_quiet {V} {V'} {E} {E'} h (put_gets_node s n is took turn) = gets_node V V' E E' s n h is took turn
  held_quiet {V} {V'} {E} h (put_refilled s n is re) = refills V V' E s n h is re
  held_quiet {V} {V'} {E} {E'} h (put_starts s n is turn) =
      turns_only W t V E E' s (parked n) (puts n start) h is (λ f. f) (inl refl)
      (K.put_starts t n V h.aux h.parcels (fits_slot W t V E s (parked n) h is) h.shape (of_slot W t V E s (parked n) h is)) turn
  held_quiet {V} {V'} {E} {E'} h (put_parks s n m is turn) =
      turns_only W t V E E' s (puts n m) (parked n) h is (λ f. f) (inl refl)
      (K.put_parks t n V h.aux h.parcels m (fits_slot W t V E s (puts n m) h is) h.shape (of_slot W t V E s (puts n m) h is)) turn
  held_quiet {V} {V'} {E} {E'} h (put_reads s n m a is act wr turn) = reads_put V V' E E' s n m a h is act wr turn
  held_quiet {V} {V'} {E} {E'} h (take_reads s m b a is act turn) = reads_take V E E' s m b a h is act turn
  held_quiet {V} {V'} {E} {E'} h (put_tidies s n m w is act sw turn) = tidies_put V V' E E' s n m w h is act sw turn
  held_quiet {V} {V'} {E} {E'} h (take_tidies s m b w is act sw turn) = tidies_take V V' E E' s m b w h is act sw turn
  held_quiet {V} {V'} {E} {E'} h (last_tidies s n m w is act sw turn) = tidies_last V V' E E' s n m w h is act sw turn
  held_quiet {V} {V'} {E} {E'} h (forgotten s turn) = turns_only W t V E E' s (E s) idle h refl (λ f. tt) (inr refl) tt turn

  pub held_puts : {V V' : View} {E E' : Requests} {x : ℕ} (h : Held W t V E) → Puts P t V E x V' E' → Holding W t V' E' (adds P.rule x h.parcels)
  held_puts {V} {V'} {E} {E'} h (put_commits s n m w is act eq wr turn) =
      acted W t V V' E E' (adds P.rule (V.parcel n) h.parcels) s (puts n m) (rests n m) h is (λ k. owned_kept t k V V' wr.nodes) (λ f. tt) (inr refl)
      ((rw act at (K.put_commits t n V V' h.aux h.parcels m (fits_slot W t V E s (puts n m) h is) h.shape (of_slot W t V E s (puts n m) h is))) eq wr) turn

  pub held_takes : {V V' : View} {E E' : Requests} {x : ℕ} (h : Held W t V E) → Takes P t V E x V' E' → (ys : List ℕ) × (yields P.rule h.parcels ≡ gives x ys) × Holding W t V' E' ys
  held_takes {V} {V'} {E} {E'} h (take_commits s m b w x is act eq wr turn) =
      let k = (rw act at (K.take_commits t V V' h.aux h.parcels m b h.shape (of_slot W t V E s (takes m b) h is))) eq wr in
      (k.0, k.1, acted W t V V' E E' k.0 s (takes m b) idle h is (λ n. owned_kept t n V V' wr.nodes) (λ f. tt) (inr refl) k.2 turn)

  pub reached_held : {V : View} {E : Requests} → Reached P t V E → Held W t V E
  reached_held {V} {E} (opened n o idles) = (held_opens n V E o idles).0
  reached_held (quietly r q) = (held_quiet (reached_held r) q).0
  reached_held (by_put r p) = (held_puts (reached_held r) p).0
  reached_held (by_take r p) = (held_takes (reached_held r) p).2.0
