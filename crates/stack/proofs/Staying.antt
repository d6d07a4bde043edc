-- What holds of a stack and of its requests stays, over every change.
use Rattle.std.specs.Prelude.{◌≡◌, ℕ, zero, suc, ◌+◌, ◌*◌, ◌<◌, ◌≤◌, Bool, List, ◌∷◌, refl}
use Rattle.std.proofs.Common.{sym, subst, ◌∙◌, inl, inr, arith}
use Rattle.kinds.specs.Views.{View, Owned, at_next, Elsewhere, Wrote, Took, Refilled}
use Rattle.kinds.specs.Plans.{Slot, idle, parked, puts, rests, takes}
use Rattle.kinds.proofs.Ways.{Each, node, Fits}
use Rattle.kinds.proofs.Distinct.{In}
use Rattle.kinds.proofs.Chains.{Chain, NodesStay, chain_kept}
use Rattle.stack.proofs.Facts.{Pile, PutNoted, Met, TakeNoted, stack_way}

-- The nodes that were ever linked have the next words and parcels that they had.
abbrev pub LinkedKept : View → View → List ℕ → Type 0
LinkedKept V V' g = NodesStay (λ m. In m g) (λ m. In m g) V V'

pub linked_kept : (V V' : View) (g : List ℕ) (n : ℕ) (xs : List ℕ) → LinkedKept V V' g → Chain (λ m. In m g) V n xs → Chain (λ m. In m g) V' n xs
linked_kept V V' g n xs l c = chain_kept (λ m. In m g) (λ m. In m g) V V' l n xs c

-- One node more was ever linked.
pub chain_more : (V : View) (g : List ℕ) (k n : ℕ) (xs : List ℕ) → Chain (λ m. In m g) V n xs → Chain (λ m. In m (k ∷ g)) V n xs
chain_more V g k n xs c = chain_kept (λ m. In m g) (λ m. In m (k ∷ g)) V V (record { still = λ m. inr; words = λ m i. refl; parcels = λ m i. refl }) n xs c

-- The shape over a change that leaves the tray's first word and the linked nodes.
pub pile_kept : (t : ℕ) (V V' : View) (g : List ℕ) (xs : List ℕ) → V'.word (2 * t) ≡ V.word (2 * t) → ((n : ℕ) → Owned V t n → Owned V' t n) → LinkedKept V V' g → Pile t V g xs → Pile t V' g xs
pile_kept t V V' g xs top kept k h = record {
  tray = h.tray;
  nodes = λ m i. kept m (h.nodes m i);
  chain = rw top (linked_kept V V' g (V.word (2 * t)) xs k h.chain);
}

-- What a request noted, over such a change; a put's own next word stays too.
put_kept : (V V' : View) (g : List ℕ) → V.taken ≤ V'.taken → (n k top : ℕ) → V'.word (64 + n) ≡ V.word (64 + n) → PutNoted V g n k top → PutNoted V' g n k top
put_kept V V' g le n zero top own h = (h.0, omega (arith, h.1))
put_kept V V' g le n (suc k) top own h = (h.0, omega (arith, h.1), own ∙ h.2)

pub met_kept : (V V' : View) (g : List ℕ) → V.taken ≤ V'.taken → LinkedKept V V' g → (b : Bool) (top next parcel : ℕ) → Met V g b top next parcel → Met V' g b top next parcel
met_kept V V' g le l b zero next parcel h = h
met_kept V V' g le l b (suc n) next parcel h = (h.0, l.words (suc n) h.0 ∙ h.1, omega (arith, h.2), l.parcels (suc n) h.0 ∙ h.3)

take_kept : (V V' : View) (g : List ℕ) → V.taken ≤ V'.taken → LinkedKept V V' g → (b : Bool) (k top next parcel : ℕ) → TakeNoted V g b k top next parcel → TakeNoted V' g b k top next parcel
take_kept V V' g le l b zero top next parcel h = tt
take_kept V V' g le l b (suc k) top next parcel h = met_kept V V' g le l b top next parcel h

abbrev pub OwnKept : View → View → Slot → Type 0
OwnKept V V' idle = Unit {0}
OwnKept V V' (parked n) = Unit {0}
OwnKept V V' (puts n m) = V'.word (64 + n) ≡ V.word (64 + n)
OwnKept V V' (rests n m) = Unit {0}
OwnKept V V' (takes m b) = Unit {0}

pub each_kept : (t : ℕ) (V V' : View) (g : List ℕ) → V.taken ≤ V'.taken → LinkedKept V V' g → (e : Slot) → OwnKept V V' e → Each stack_way t V g e → Each stack_way t V' g e
each_kept t V V' g le l idle own h = tt
each_kept t V V' g le l (parked n) own h = h
each_kept t V V' g le l (puts n m) own h = put_kept V V' g le n m.stage m.one own h
each_kept t V V' g le l (rests n m) own h = tt
each_kept t V V' g le l (takes m b) own h = take_kept V V' g le l b m.stage m.one m.two m.parcel h

-- Something happens elsewhere.
pub elsewhere_linked : (t : ℕ) (V V' : View) (g : List ℕ) (xs : List ℕ) → Elsewhere t V V' → Pile t V g xs → LinkedKept V V' g
elsewhere_linked t V V' g xs w h = record {
  still = λ m i. i;
  words = λ m i. w.words (64 + m) (at_next m (h.nodes m i) refl);
  parcels = λ m i. w.parcels m (h.nodes m i);
}

pub elsewhere_own : (t : ℕ) (V V' : View) → Elsewhere t V V' → (e : Slot) → Fits V t e → OwnKept V V' e
elsewhere_own t V V' w idle f = tt
elsewhere_own t V V' w (parked n) f = tt
elsewhere_own t V V' w (puts n m) f = w.words (64 + n) (at_next n f refl)
elsewhere_own t V V' w (rests n m) f = tt
elsewhere_own t V V' w (takes m b) f = tt

-- A node is taken, or gets another parcel: no word changes.
pub words_own : (V V' : View) → ((a : ℕ) → V'.word a ≡ V.word a) → (e : Slot) → OwnKept V V' e
words_own V V' w idle = tt
words_own V V' w (parked n) = tt
words_own V V' w (puts n m) = w (64 + n)
words_own V V' w (rests n m) = tt
words_own V V' w (takes m b) = tt

pub took_linked : (t n : ℕ) (V V' : View) (g : List ℕ) (xs : List ℕ) → Took t n V V' → Pile t V g xs → LinkedKept V V' g
took_linked t n V V' g xs w h = record {
  still = λ m i. i;
  words = λ m i. w.words (64 + m);
  parcels = λ m i. w.parcels m (omega (arith, (h.nodes m i).taken, w.fresh));
}

-- The node that gets another parcel was not linked.
pub refilled_linked : (n : ℕ) (V V' : View) (g : List ℕ) → (In n g → ⊥) → Refilled n V V' → LinkedKept V V' g
refilled_linked n V V' g out w = record {
  still = λ m i. i;
  words = λ m i. w.words (64 + m);
  parcels = λ m i. w.parcels m (λ e. out (subst (λ k. In k g) e i));
}

-- A put fills its node, which was not linked.
pub fill_linked : (n x : ℕ) (V V' : View) (g : List ℕ) → (In n g → ⊥) → Wrote V V' (64 + n) x → LinkedKept V V' g
fill_linked n x V V' g out w = record {
  still = λ m i. i;
  words = λ m i. w.there (64 + m) (λ e. let same : n ≡ m = omega (arith, e) in out (subst (λ k. In k g) (sym same) i));
  parcels = λ m i. w.nodes.parcels m;
}

pub fill_own : (t n x : ℕ) (V V' : View) → Wrote V V' (64 + n) x → Owned V t n → (e : Slot) → (node e ≡ n → n ≡ 0) → OwnKept V V' e
fill_own t n x V V' w o idle f = tt
fill_own t n x V V' w o (parked k) f = tt
fill_own t n x V V' w o (puts k m) f = w.there (64 + k) (λ e. let z : n ≡ 0 = f (omega (arith, e)) in omega (arith, o.positive))
fill_own t n x V V' w o (rests k m) f = tt
fill_own t n x V V' w o (takes m b) f = tt

-- A commit writes the first word.
pub top_linked : (t x : ℕ) (V V' : View) (g : List ℕ) → t < 32 → Wrote V V' (2 * t) x → LinkedKept V V' g
top_linked t x V V' g lt w = record {
  still = λ m i. i;
  words = λ m i. w.there (64 + m) (omega arith);
  parcels = λ m i. w.nodes.parcels m;
}

pub top_own : (t x : ℕ) (V V' : View) → t < 32 → Wrote V V' (2 * t) x → (e : Slot) → OwnKept V V' e
top_own t x V V' lt w idle = tt
top_own t x V V' lt w (parked k) = tt
top_own t x V V' lt w (puts k m) = w.there (64 + k) (omega arith)
top_own t x V V' lt w (rests k m) = tt
top_own t x V V' lt w (takes m b) = tt

-- Node n is linked too now: what each request noted stays, but for the put that had it.
met_more : (V : View) (g : List ℕ) (n : ℕ) (b : Bool) (top next parcel : ℕ) → Met V g b top next parcel → Met V (n ∷ g) b top next parcel
met_more V g n b zero next parcel h = h
met_more V g n b (suc x) next parcel h = (inr h.0, h.1, h.2, h.3)

out_more : (g : List ℕ) (n k : ℕ) → 0 < n → (k ≡ n → n ≡ 0) → (In k g → ⊥) → In k (n ∷ g) → ⊥
out_more g n k pos ne out (inl e) = let z : n ≡ 0 = ne e in omega arith
out_more g n k pos ne out (inr i) = out i

put_more : (V : View) (g : List ℕ) (n j : ℕ) → 0 < n → (j ≡ n → n ≡ 0) → (k top : ℕ) → PutNoted V g j k top → PutNoted V (n ∷ g) j k top
put_more V g n j pos ne zero top h = (out_more g n j pos ne h.0, h.1)
put_more V g n j pos ne (suc k) top h = (out_more g n j pos ne h.0, h.1, h.2)

take_more : (V : View) (g : List ℕ) (n : ℕ) (b : Bool) (k top next parcel : ℕ) → TakeNoted V g b k top next parcel → TakeNoted V (n ∷ g) b k top next parcel
take_more V g n b zero top next parcel h = tt
take_more V g n b (suc k) top next parcel h = met_more V g n b top next parcel h

pub each_more : (t : ℕ) (V : View) (g : List ℕ) (n : ℕ) → 0 < n → (e : Slot) → (node e ≡ n → n ≡ 0) → Each stack_way t V g e → Each stack_way t V (n ∷ g) e
each_more t V g n pos idle ne h = tt
each_more t V g n pos (parked k) ne h = out_more g n k pos ne h
each_more t V g n pos (puts k m) ne h = put_more V g n k pos ne m.stage m.one h
each_more t V g n pos (rests k m) ne h = tt
each_more t V g n pos (takes m b) ne h = take_more V g n b m.stage m.one m.two m.parcel h

pub nodes_more : (t : ℕ) (V : View) (g : List ℕ) (n : ℕ) → Owned V t n → ((m : ℕ) → In m g → Owned V t m) → (m : ℕ) → In m (n ∷ g) → Owned V t m
nodes_more t V g n o nodes m (inl e) = subst (Owned V t) (sym e) o
nodes_more t V g n o nodes m (inr i) = nodes m i
