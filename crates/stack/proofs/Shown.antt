-- The stack shows its facts, act by act.
use Rattle.std.specs.Prelude.{◌≡◌, ℕ, zero, suc, ◌+◌, ◌*◌, ◌<◌, ◌≤◌, Bool, true, false, ◌||◌, ◌⊎◌, List, [], ◌∷◌, refl}
use Rattle.std.proofs.Common.{sym, ap, subst, ◌∙◌, inl, inr, arith}
use Rattle.records.specs.declared.entries.Swap.{Swap}
use Rattle.kinds.specs.declared.acts.Notes.{Notes}
use Rattle.kinds.specs.Views.{View, Owned, at_first, Wrote}
use Rattle.kinds.specs.Plain.{adds, gives, yields}
use Rattle.kinds.specs.Plans.{start, idle, puts, rests, is_empty, finds}
use Rattle.kinds.specs.Points.{Shared, Reads, Swaps, PutKeeps, TakeKeeps, PutEnds, TakeEnds}
use Rattle.kinds.proofs.Steady.{OnPutRead, OnPutTidy, OnPutCommit, OnTakeRead, OnTakeTidy, OnTakeCommit, OnEmpty, Stays, HeldPrivate, Steady}
use Rattle.kinds.proofs.Held.{owned_kept, refilled_kept, took_kept}
use Rattle.kinds.proofs.Distinct.{In}
use Rattle.kinds.proofs.Chains.{Chain, chain_taken, chain_walk}
use Rattle.stack.specs.Stack.{top_at, stack_plan}
use Rattle.stack.proofs.Facts.{Pile, PutNoted, Met, TakeNoted, stack_way}
use Rattle.stack.proofs.Staying.{linked_kept, chain_more, pile_kept, each_kept, elsewhere_linked, elsewhere_own, words_own, took_linked, refilled_linked, fill_linked, fill_own, top_linked, top_own, each_more, nodes_more}

abbrev notes : ℕ → ℕ → ℕ → ℕ → ℕ → Notes
notes k x y z p = record { stage = k; one = x; two = y; three = z; parcel = p }

-- of a tray that is there
top_is : (t : ℕ) → t < 32 → top_at t ≡ 2 * t
top_is t lt = omega arith

found_word : (V : View) (w : ℕ) → (finds stack_plan V w).word ≡ w
found_word V zero = refl
found_word V (suc n) = refl

-- Undisturbed, a request reads and then commits or finishes.
put_ends : (t n : ℕ) (V : View) → t < 32 → PutEnds stack_plan t 2 V n start
put_ends t n V lt = λ V' w. w.there (top_at t) (omega (arith, top_is t lt)) ∙ sym (found_word V (V.word (top_at t)))

finishes : (t : ℕ) (V : View) (w : ℕ) → V.word (top_at t) ≡ w → TakeEnds stack_plan t 1 V (stack_plan.take_noted start (finds stack_plan V w))
finishes t V zero e = tt
finishes t V (suc n) e = e

top_taken : (t : ℕ) (V : View) (g xs : List ℕ) → Pile t V g xs → V.word (2 * t) ≤ V.taken
top_taken t V g xs h = chain_taken t (λ m. In m g) V h.nodes (V.word (2 * t)) xs h.chain

-- "Empty" only where the read met it.
empty_seen : (t : ℕ) (V : View) (g : List ℕ) (k x y z p : ℕ) (b : Bool) → TakeNoted V g b k x y p → OnEmpty (stack_plan.take_act t (notes k x y z p)) (b ≡ true)
empty_seen t V g zero x y z p b h = tt
empty_seen t V g (suc k) zero y z p b h = h
empty_seen t V g (suc k) (suc x) y z p b h = tt

-- A put reads the first word, and fills its node with it.
reads_put : (t n : ℕ) (V V' : View) (g xs : List ℕ) (m : Notes) (a : ℕ) → a ≡ 2 * t → Owned V t n → Pile t V g xs → (In n g → ⊥) → Wrote V V' (64 + n) (stack_plan.fill (stack_plan.put_noted m (finds stack_plan V (V.word a)))) →
    Stays stack_way t V V' g xs n (puts n (stack_plan.put_noted m (finds stack_plan V (V.word a))))
reads_put t n V V' g xs m a e o h out w =
    let l = fill_linked n _ V V' g out w in
    let le : V.taken ≤ V'.taken = omega (arith, w.nodes.taken) in
    let found : (finds stack_plan V (V.word a)).word ≡ V.word (2 * t) = found_word V (V.word a) ∙ ap V.word e in
    record {
      aux = g;
      shape = pile_kept t V V' g xs (w.there (2 * t) (omega (arith, h.tray))) (λ k. owned_kept t k V V' w.nodes) l h;
      own = (out, omega (arith, top_taken t V g xs h, le, found), w.here);
      others = λ r f a. each_kept t V V' g le l r (fill_own t n _ V V' w o r a);
    }

put_reads : (t n : ℕ) (V V' : View) (g xs : List ℕ) (k x y z p : ℕ) → Owned V t n → Pile t V g xs → PutNoted V g n k x → OnPutRead (stack_plan.put_act t n (notes k x y z p)) λ a.
    Wrote V V' (64 + n) (stack_plan.fill (stack_plan.put_noted (notes k x y z p) (finds stack_plan V (V.word a)))) → Stays stack_way t V V' g xs n (puts n (stack_plan.put_noted (notes k x y z p) (finds stack_plan V (V.word a))))
put_reads t n V V' g xs zero x y z p o h k = reads_put t n V V' g xs (notes 0 x y z p) (top_at t) (top_is t h.tray) o h k.0
put_reads t n V V' g xs (suc i) x y z p o h k = tt

-- A take reads the first word: of a node the next word and the parcel too.
marked : (b : Bool) → b || true ≡ true
marked true = refl
marked false = refl

abbrev Noted : View → List ℕ → Bool → Notes → Type 0
Noted V g b m = TakeNoted V g b m.stage m.one m.two m.parcel

reads_take : (t : ℕ) (V : View) (g : List ℕ) (m : Notes) → ((j : ℕ) → In j g → Owned V t j) → (b : Bool) (w : ℕ) (xs : List ℕ) → Chain (λ j. In j g) V w xs → Noted V g (b || is_empty xs) (stack_plan.take_noted m (finds stack_plan V w))
reads_take t V g m nodes b zero [] c = marked b
reads_take t V g m nodes b zero (x ∷ xs) c = absurd (omega (arith, (nodes 0 c.0).positive))
reads_take t V g m nodes b (suc n) [] c = absurd (omega (arith, c))
reads_take t V g m nodes b (suc n) (x ∷ xs) c = (c.0, refl, chain_taken t (λ j. In j g) V nodes (V.word (64 + suc n)) xs c.2, refl)

take_reads : (t : ℕ) (V : View) (g xs : List ℕ) (k x y z p : ℕ) (b : Bool) → Pile t V g xs → OnTakeRead (stack_plan.take_act t (notes k x y z p)) λ a.
    Noted V g (b || is_empty xs) (stack_plan.take_noted (notes k x y z p) (finds stack_plan V (V.word a)))
take_reads t V g xs zero x y z p b h = rw (top_is t h.tray) (reads_take t V g (notes 0 x y z p) h.nodes b (V.word (2 * t)) xs h.chain)
take_reads t V g xs (suc k) zero y z p b h = tt
take_reads t V g xs (suc k) (suc x) y z p b h = tt

-- no tidying swaps
put_tidies : (t n k x y z p : ℕ) (Q : Swap → Type 0) → OnPutTidy (stack_plan.put_act t n (notes k x y z p)) Q
put_tidies t n zero x y z p Q = tt
put_tidies t n (suc k) x y z p Q = tt

take_tidies : (t k x y z p : ℕ) (Q : Swap → Type 0) → OnTakeTidy (stack_plan.take_act t (notes k x y z p)) Q
take_tidies t zero x y z p Q = tt
take_tidies t (suc k) zero y z p Q = tt
take_tidies t (suc k) (suc x) y z p Q = tt

-- A put's commit: its node comes to the front.
in_front : (x : ℕ) (xs : List ℕ) → adds stack_plan.rule x xs ≡ x ∷ xs
in_front x xs = refl

commits_put : (t n top a : ℕ) (V V' : View) (g xs : List ℕ) (m : Notes) → a ≡ 2 * t → Owned V t n → Pile t V g xs → (In n g → ⊥) → V.word (64 + n) ≡ top → V.word a ≡ top → Wrote V V' a n →
    Stays stack_way t V V' g (adds stack_plan.rule (V.parcel n) xs) n (rests n m)
commits_put t n top a V V' g xs m e o h out behind eq wr =
    let w : Wrote V V' (2 * t) n = rw e at wr in
    let l = top_linked t n V V' g h.tray w in
    let kept : (k : ℕ) → Owned V t k → Owned V' t k = λ k. owned_kept t k V V' w.nodes in
    -- the node's next word is what the first word was
    let next : V'.word (64 + n) ≡ V.word (2 * t) = w.there (64 + n) (omega (arith, h.tray)) ∙ behind ∙ sym eq ∙ ap V.word e in
    let rest : Chain (λ m. In m (n ∷ g)) V' (V.word (2 * t)) xs = chain_more V' g n (V.word (2 * t)) xs (linked_kept V V' g (V.word (2 * t)) xs l h.chain) in
    record {
      aux = n ∷ g;
      shape = subst (Pile t V' (n ∷ g)) (sym (in_front (V.parcel n) xs)) (record {
        tray = h.tray;
        nodes = nodes_more t V' g n (kept n o) (λ m i. kept m (h.nodes m i));
        chain = rw w.here (inl refl, w.nodes.parcels n, rw next rest);
      });
      own = tt;
      others = λ r f a p. each_more t V' g n o.positive r a (each_kept t V V' g (omega (arith, w.nodes.taken)) l r (top_own t n V V' h.tray w r) p);
    }

put_commits : (t n : ℕ) (V V' : View) (g xs : List ℕ) (k x y z p : ℕ) → Owned V t n → Pile t V g xs → PutNoted V g n k x → OnPutCommit (stack_plan.put_act t n (notes k x y z p)) λ w.
    V.word w.address ≡ w.old → Wrote V V' w.address w.new → Stays stack_way t V V' g (adds stack_plan.rule (V.parcel n) xs) n (rests n (notes k x y z p))
put_commits t n V V' g xs zero x y z p o h k = tt
put_commits t n V V' g xs (suc i) x y z p o h k = commits_put t n x (top_at t) V V' g xs (notes (suc i) x y z p) (top_is t h.tray) o h k.0 k.2

-- A take's commit: the next word of the first node comes to the front.
pops : (V : View) (g : List ℕ) (n x : ℕ) (xs : List ℕ) → n ≡ suc x → Chain (λ m. In m g) V n xs → (ys : List ℕ) × (xs ≡ V.parcel (suc x) ∷ ys) × Chain (λ m. In m g) V (V.word (64 + suc x)) ys
pops V g n x [] e c = absurd (omega (arith, e, c))
pops V g n x (p ∷ ys) e c = (ys, ap (λ q. q ∷ ys) (sym c.1 ∙ ap V.parcel e), rw e at c.2)

commits_take : (t x y p a : ℕ) (V V' : View) (g xs : List ℕ) (b : Bool) → a ≡ 2 * t → Pile t V g xs → Met V g b (suc x) y p → V.word a ≡ suc x → Wrote V V' a y →
    (ys : List ℕ) × (yields stack_plan.rule xs ≡ gives p ys) × Stays stack_way t V V' g ys 0 idle
commits_take t x y p a V V' g xs b e h k eq wr =
    let w : Wrote V V' (2 * t) y = rw e at wr in
    let l = top_linked t y V V' g h.tray w in
    let q = pops V g (V.word (2 * t)) x xs (sym (ap V.word e) ∙ eq) h.chain in
    let c : Chain (λ m. In m g) V' (V'.word (2 * t)) q.0 = rw (w.here, ← k.1) (linked_kept V V' g (V.word (64 + suc x)) q.0 l q.2) in (
      q.0,
      ap (yields stack_plan.rule) q.1 ∙ ap (λ r. gives r q.0) k.3,
      record {
        aux = g;
        shape = record { tray = h.tray; nodes = λ m i. owned_kept t m V V' w.nodes (h.nodes m i); chain = c };
        own = tt;
        others = λ r f a. each_kept t V V' g (omega (arith, w.nodes.taken)) l r (top_own t y V V' h.tray w r);
      },
    )

take_commits : (t : ℕ) (V V' : View) (g xs : List ℕ) (k x y z p : ℕ) (b : Bool) → Pile t V g xs → TakeNoted V g b k x y p → OnTakeCommit (stack_plan.take_act t (notes k x y z p)) λ w parcel.
    V.word w.address ≡ w.old → Wrote V V' w.address w.new → (ys : List ℕ) × (yields stack_plan.rule xs ≡ gives parcel ys) × Stays stack_way t V V' g ys 0 idle
take_commits t V V' g xs zero x y z p b h k = tt
take_commits t V V' g xs (suc i) zero y z p b h k = tt
take_commits t V V' g xs (suc i) (suc x) y z p b h k = commits_take t x y p (top_at t) V V' g xs b (top_is t h.tray) h k

-- The one address that acts use: the tray's first word, which leads to nil or to a node of the tray.
nil_or_owned : (t : ℕ) (V : View) (g : List ℕ) → ((m : ℕ) → In m g → Owned V t m) → (n : ℕ) (xs : List ℕ) → Chain (λ m. In m g) V n xs → (n ≡ 0) ⊎ Owned V t n
nil_or_owned t V g nodes n [] c = inl c
nil_or_owned t V g nodes n (x ∷ xs) c = inr (nodes n c.0)

top_shared : (t : ℕ) (V : View) (private : ℕ → Type 0) → t < 32 → Shared V private t (top_at t)
top_shared t V private lt = let e = top_is t lt in record { mine = at_first e; unmet = λ n p. omega (arith, e) }

top_read : (t : ℕ) (V : View) (g xs : List ℕ) (private : ℕ → Type 0) → Pile t V g xs → Reads stack_plan V private t (top_at t)
top_read t V g xs private h = record {
  shared = top_shared t V private h.tray;
  peeked = λ _. rw (top_is t h.tray) (nil_or_owned t V g h.nodes (V.word (2 * t)) xs h.chain);
}

top_swap : (t : ℕ) (V : View) (private : ℕ → Type 0) (old new : ℕ) → t < 32 → old ≤ V.taken → new ≤ V.taken → Swaps stack_plan V private t false (record { address = top_at t; old = old; new = new })
top_swap t V private old new lt a b = record { shared = top_shared t V private lt; old = a; new = b; calm = λ _. omega (arith, top_is t lt); apart = refl }

put_keeps : (t n : ℕ) (V : View) (g xs : List ℕ) (k x y z p : ℕ) (private : ℕ → Type 0) → Owned V t n → Pile t V g xs → PutNoted V g n k x → PutKeeps stack_plan V private t (stack_plan.put_act t n (notes k x y z p)) × (x ≤ V.taken)
put_keeps t n V g xs zero x y z p private o h k = (top_read t V g xs private h, k.1)
put_keeps t n V g xs (suc i) x y z p private o h k = (top_swap t V private x n h.tray k.1 o.taken, k.1)

take_keeps : (t : ℕ) (V : View) (g xs : List ℕ) (k x y z p : ℕ) (b : Bool) (private : ℕ → Type 0) → Pile t V g xs → TakeNoted V g b k x y p → TakeKeeps stack_plan V private t (stack_plan.take_act t (notes k x y z p))
take_keeps t V g xs zero x y z p b private h k = top_read t V g xs private h
take_keeps t V g xs (suc i) zero y z p b private h k = tt
take_keeps t V g xs (suc i) (suc x) y z p b private h k = top_swap t V private (suc x) y h.tray (h.nodes (suc x) k.0).taken k.2

-- A put is set aside.
parks : (V : View) (g : List ℕ) (n k x : ℕ) → PutNoted V g n k x → In n g → ⊥
parks V g n zero x h = h.0
parks V g n (suc k) x h = h.0

pub stack_steady : Steady stack_plan stack_way
stack_steady = record {
  rule_within = record { gives_within = λ x xs. omega arith };
  shows = λ t V g xs h. chain_walk (λ m. In m g) V V.taken (λ m i. ((h.nodes m i).positive, (h.nodes m i).taken)) (V.word (2 * t)) xs h.chain;
  opens = λ t n V o. ([], record { tray = o.tray; nodes = λ m i. absurd i; chain = o.first });
  opens_first = λ n. inl refl;
  opens_second = λ n. inl refl;
  frame = λ t V V' g xs w h.
      let l = elsewhere_linked t V V' g xs w h in
      (pile_kept t V V' g xs (w.words (2 * t) (at_first refl)) w.kept l h, λ r f. each_kept t V V' g w.grows l r (elsewhere_own t V V' w r f));
  take_starts = λ t V g xs h. tt;
  take_again = λ t V g xs m b h k. tt;
  gets_node = λ t n V V' g xs w h.
      let l = took_linked t n V V' g xs w h in
      record {
        aux = g;
        shape = pile_kept t V V' g xs (w.words (2 * t)) (took_kept t n V V' w) l h;
        own = λ i. omega (arith, (h.nodes n i).taken, w.fresh);
        others = λ r f a. each_kept t V V' g (omega (arith, w.fresh, w.taken)) l r (words_own V V' w.words r);
      };
  refilled = λ t n V V' g xs w o h out.
      let l = refilled_linked n V V' g out w in
      record {
        aux = g;
        shape = pile_kept t V V' g xs (w.words (2 * t)) (refilled_kept t n V V' w) l h;
        own = out;
        others = λ r f a. each_kept t V V' g (omega (arith, w.taken)) l r (words_own V V' w.words r);
      };
  put_starts = λ t n V g xs o h out. (out, omega arith);
  put_parks = λ t n V g xs m o h. parks V g n m.stage m.one;
  put_reads = λ t n V V' g xs m. put_reads t n V V' g xs m.stage m.one m.two m.three m.parcel;
  take_reads = λ t V g xs m b h k. take_reads t V g xs m.stage m.one m.two m.three m.parcel b h;
  put_tidies = λ t n V V' g xs m o h k. put_tidies t n m.stage m.one m.two m.three m.parcel _;
  put_tidied_not = λ t n V g xs m o h k. put_tidies t n m.stage m.one m.two m.three m.parcel _;
  take_tidies = λ t V V' g xs m b h k. take_tidies t m.stage m.one m.two m.three m.parcel _;
  take_tidied_not = λ t V g xs m b h k. take_tidies t m.stage m.one m.two m.three m.parcel _;
  last_tidies = λ t n V V' g xs m h k. tt;
  put_commits = λ t n V V' g xs m. put_commits t n V V' g xs m.stage m.one m.two m.three m.parcel;
  take_commits = λ t V V' g xs m b. take_commits t V V' g xs m.stage m.one m.two m.three m.parcel b;
  empty_seen = λ t V g xs m b h. empty_seen t V g m.stage m.one m.two m.three m.parcel b;
  put_keeps = λ t n V g xs m. put_keeps t n V g xs m.stage m.one m.two m.three m.parcel (HeldPrivate stack_way t V g);
  take_keeps = λ t V g xs m b. take_keeps t V g xs m.stage m.one m.two m.three m.parcel b (HeldPrivate stack_way t V g);
  last_keeps = λ t n V g xs m h k. tt;
  put_ends = λ t n V g xs o h k. put_ends t n V h.tray;
  take_ends = λ t V g xs b h k. finishes t V (V.word (top_at t)) refl;
}
