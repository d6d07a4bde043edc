-- From the ledger to the one order: what met an empty tray stays in it only where that is the answer.
use Rattle.std.proofs.Common.{◌≡◌, refl, sym, ◌∙◌, ap, subst, ◌⊎◌, inl, inr, Bool, true, false, cond, ◌||◌, List, [], ◌∷◌, ℕ, ◌+◌, ◌≤◌, eqb, arith}
use Rattle.records.specs.declared.scanner.Wish.{Wish}
use Rattle.kinds.specs.Plain.{Rule}
use Rattle.history.specs.Events.{Answer, gave, was_empty, worn, Event, handed, quiet, caused, answered, Story, Replies, Answered, changes}
use Rattle.history.specs.PlainLists.{Trays, Entry, outcome, Right, run, Explains}
use Rattle.history.specs.Promises.{In, times, adds_served, served, InTime, OneOrder, due}
use Rattle.history.proofs.Stands.{Stand}
use Rattle.history.proofs.Books.{is_gave, is_worn, is_empty, sum, entry, Books}
use Rattle.history.proofs.Ledger.{nothing_happens, precedes_answered}

-- whether request r was answered as one that met its tray empty
abbrev empties : ℕ → Event → Bool
empties r (handed q w) = false
empties r quiet = false
empties r (caused q) = false
empties r (answered q (gave x)) = false
empties r (answered q was_empty) = eqb q r
empties r (answered q worn) = false

abbrev emptied : ℕ → Story → Bool
emptied r [] = false
emptied r (e ∷ h) = empties r e || emptied r h

empties_reply : (r : ℕ) (e : Event) → Replies r was_empty e → empties r e ≡ true
empties_reply r (handed q w) x = absurd x
empties_reply r quiet x = absurd x
empties_reply r (caused q) x = absurd x
empties_reply r (answered q (gave y)) x = let z = x.1 in grind arith
empties_reply r (answered q was_empty) x = let z = x.0 in grind arith
empties_reply r (answered q worn) x = let z = x.1 in grind arith

reply_empties : (r : ℕ) (e : Event) → empties r e ≡ true → Replies r was_empty e
reply_empties r (handed q w) x = grind arith
reply_empties r quiet x = grind arith
reply_empties r (caused q) x = grind arith
reply_empties r (answered q (gave y)) x = grind arith
reply_empties r (answered q was_empty) x = (grind arith, refl)
reply_empties r (answered q worn) x = grind arith

or_left : (a b : Bool) → a ≡ true → a || b ≡ true
or_left a b e = grind arith

or_right : (a b : Bool) → b ≡ true → a || b ≡ true
or_right a b e = grind arith

or_either : (a b : Bool) → a || b ≡ true → (a ≡ true) ⊎ (b ≡ true)
or_either true b e = inl refl
or_either false b e = inr e

emptied_answered : (r : ℕ) (h : Story) → Answered r was_empty h → emptied r h ≡ true
emptied_answered r [] x = absurd x
emptied_answered r (e ∷ h) (inl x) = or_left (empties r e) _ (empties_reply r e x)
emptied_answered r (e ∷ h) (inr x) = or_right (empties r e) _ (emptied_answered r h x)

answered_emptied : (r : ℕ) (h : Story) → emptied r h ≡ true → Answered r was_empty h
answered_emptied r [] x = grind arith
answered_emptied r (e ∷ h) x = elim (or_either (empties r e) _ x) [ inl y ↦ inl (reply_empties r e y) | inr y ↦ inr (answered_emptied r h y) ]

abbrev stays : Bool → Answer → Bool
stays b (gave x) = true
stays b was_empty = b
stays b worn = true

abbrev keep : Story → ℕ → Answer → Bool
keep h r a = stays (emptied r h) a

abbrev kept : Story → List Entry → List Entry
kept h [] = []
kept h (e ∷ L) = cond (keep h e.request e.answer) (e ∷ kept h L) (kept h L)

-- what is answered so is kept
keep_answered : (h : Story) (r : ℕ) (a : Answer) → Answered r a h → keep h r a ≡ true
keep_answered h r (gave x) y = refl
keep_answered h r was_empty y = emptied_answered r h y
keep_answered h r worn y = refl

in_kept : (h : Story) (e : Entry) (L : List Entry) → keep h e.request e.answer ≡ true → In e L → In e (kept h L)
in_kept h e [] k i = i
in_kept h e (f ∷ L) k (inl i) = subst (λ g. In e (cond (keep h g.request g.answer) (g ∷ kept h L) (kept h L))) i (rw k (inl refl))
in_kept h e (f ∷ L) k (inr i) =
    elim (keep h f.request f.answer) as (λ b. In e (cond b (f ∷ kept h L) (kept h L))) [ true ↦ inr (in_kept h e L k i) | false ↦ in_kept h e L k i ]

kept_in : (h : Story) (e : Entry) (L : List Entry) → In e (kept h L) → In e L
kept_in h e [] i = i
kept_in h e (f ∷ L) i = go (keep h f.request f.answer) i (kept_in h e L)
  where
    go : (b : Bool) → In e (cond b (f ∷ kept h L) (kept h L)) → (In e (kept h L) → In e L) → In e (f ∷ L)
    go true (inl x) ih = inl x
    go true (inr x) ih = inr (ih x)
    go false x ih = inr (ih x)

module _ (R : ℕ → Rule) (h : Story) where
  -- only what changes nothing is left out
  run_kept : (L : List Entry) → Explains R L → run R (kept h L) ≡ run R L
  run_kept [] x = refl
  run_kept (e ∷ L) x = go e.answer (keep h e.request e.answer) refl x.0 (run_kept L x.1)
    where
      go : (a : Answer) (b : Bool) → keep h e.request a ≡ b → Right R e.wish a (run R L) → run R (kept h L) ≡ run R L → run R (cond b (record { request = e.request; wish = e.wish; answer = a } ∷ kept h L) (kept h L)) ≡ outcome R e.wish a (run R L)
      go a true k r ih = ap (outcome R e.wish a) ih
      go (gave y) false k r ih = grind arith
      go was_empty false k r ih = ih ∙ sym (nothing_happens R e.wish (run R L) r)
      go worn false k r ih = grind arith

  explains_kept : (L : List Entry) → Explains R L → Explains R (kept h L)
  explains_kept [] x = tt
  explains_kept (e ∷ L) x =
      elim (keep h e.request e.answer) as (λ b. Explains R (cond b (e ∷ kept h L) (kept h L))) [
        | true ↦ (subst (Right R e.wish e.answer) (sym (run_kept L x.1)) x.0, explains_kept L x.1)
        | false ↦ explains_kept L x.1
      ]

in_time_kept : (h : Story) (L : List Entry) → InTime h L → InTime h (kept h L)
in_time_kept h [] t = tt
in_time_kept h (e ∷ L) t =
    elim (keep h e.request e.answer) as (λ b. InTime h (cond b (e ∷ kept h L) (kept h L))) [
      | true ↦ (
        (λ r a p. let x = t.0 r a p in (x.0, in_kept h (entry r x.0 a) L (keep_answered h r a (precedes_answered r a e.request h p)) x.1)),
        in_time_kept h L t.1,
      )
      | false ↦ in_time_kept h L t.1
    ]

-- how often a request is kept
times_step : (q r : ℕ) (w : Wish) (a : Answer) (k : Bool) (b : Bool) (K : List Entry) (p v s : ℕ) → (q ≡ r → b ≡ stays k a) → times r K ≡ p + v + cond k s 0 →
    times r (cond b (entry q w a ∷ K) K) ≡ (cond (eqb q r) (is_gave a) 0 + p) + (cond (eqb q r) (is_worn a) 0 + v) + cond k (cond (eqb q r) (is_empty a) 0 + s) 0
times_step q r w (gave x) k true K p v s l e = grind arith
times_step q r w (gave x) k false K p v s l e = grind arith
times_step q r w was_empty k true K p v s l e = grind arith
times_step q r w was_empty k false K p v s l e = grind arith
times_step q r w worn k true K p v s l e = grind arith
times_step q r w worn k false K p v s l e = grind arith

times_kept : (h : Story) (r : ℕ) (L : List Entry) → times r (kept h L) ≡ sum is_gave r L + sum is_worn r L + cond (emptied r h) (sum is_empty r L) 0
times_kept h r [] = elim (emptied r h) as (λ b. ◌≡◌ {A = ℕ} 0 (0 + 0 + cond b 0 0)) [ true ↦ refl | false ↦ refl ]
times_kept h r (e ∷ L) =
    times_step e.request r e.wish e.answer (emptied r h) (keep h e.request e.answer) (kept h L) (sum is_gave r L) (sum is_worn r L) (sum is_empty r L)
    (λ q. ap (λ x. keep h x e.answer) q) (times_kept h r L)

few : (b : Bool) (p v s : ℕ) → p + v ≤ 1 → s ≤ 1 → (b ≡ true → (p ≡ 0) × (v ≡ 0)) → p + v + cond b s 0 ≤ 1
few true p v s x y z = let u = z refl in let u0 = u.0 in let u1 = u.1 in omega arith
few false p v s x y z = omega arith

-- what is left out has no parcel
served_kept : (h : Story) (L : List Entry) → served (kept h L) ≡ served L
served_kept h [] = refl
served_kept h (e ∷ L) = go e.answer (keep h e.request e.answer) refl (served_kept h L)
  where
    go : (a : Answer) (b : Bool) → keep h e.request a ≡ b → served (kept h L) ≡ served L → served (cond b (entry e.request e.wish a ∷ kept h L) (kept h L)) ≡ adds_served e.request a (served L)
    go a true k ih = ap (adds_served e.request a) ih
    go (gave y) false k ih = absurd (grind arith)
    go was_empty false k ih = ih
    go worn false k ih = absurd (grind arith)

-- The books show the one order.
pub orders : {R : ℕ → Rule} {trays n : ℕ} {st : ℕ → Stand} {T : Trays} {h : Story} {L : List Entry} → Books R trays n st T h L → OneOrder R trays h T
orders {R} {trays} {n} {st} {T} {h} {L} b =
    record {
      numbered = b.numbered;
      order = kept h L;
      once = λ r.
          let z = b.bounds r in
          subst (λ k. k ≤ 1) (sym (times_kept h r L))
          (few (emptied r h) _ _ _ z.0 z.1 (λ e. let x = (b.answered r was_empty (answered_emptied r h e)).1 in (x.1, x.2)));
      every = λ r a y. let x = (b.answered r a y).1.0 in (x.0, in_kept h (entry r x.0 a) L (keep_answered h r a y) x.1);
      only = λ e i. b.handed e (kept_in h e L i);
      worns = λ e i. b.worns e (kept_in h e L i);
      explains = explains_kept R h L b.explains;
      ends = λ t l. ap (λ (F : Trays). F t) (run_kept R h L b.explains) ∙ b.holds t l;
      in_time = in_time_kept h L b.in_time;
      in_effect = served_kept h L ∙ b.in_effect;
    }

due_gave : (a : Answer) → is_gave a ≡ due a
due_gave (gave x) = refl
due_gave was_empty = refl
due_gave worn = refl

-- and they count the changes
pub counts : {R : ℕ → Rule} {trays n : ℕ} {st : ℕ → Stand} {T : Trays} {h : Story} {L : List Entry} → Books R trays n st T h L →
    ((r : ℕ) (a : Answer) → Answered r a h → changes r h ≡ due a) × ((r : ℕ) → changes r h ≤ 1)
counts b = (
  (λ r a y. (b.bounds r).2 ∙ (b.answered r a y).1.1 ∙ due_gave a),
  (λ r. let z = b.bounds r in omega arith),
)
