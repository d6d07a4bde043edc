-- The ledger grows with the day: one lemma for each thing that can happen.
use Rattle.std.proofs.Common.{◌≡◌, refl, sym, ◌∙◌, ap, subst, ◌≢◌, ◌⊎◌, inl, inr, Bool, true, false, List, [], ◌∷◌, ℕ, ◌+◌, ◌<◌, ◌≤◌, arith}
use native.Mathlib.Decide.{ℕ_discrete}
use Rattle.records.specs.declared.scanner.Wish.{Wish}
use Rattle.records.specs.declared.scanner.Wish.TheVariants.{Put, Take, Move}
use Rattle.kinds.specs.Plain.{Rule, Given, nothing, gives, yields}
use Rattle.history.specs.Update.{update}
use Rattle.history.specs.Events.{Answer, gave, was_empty, worn, Event, handed, quiet, caused, answered, Story, Hands, Replies, causes, hand_ins, Numbered, Handed, Answered, changes, effects, Precedes}
use Rattle.history.specs.PlainLists.{Trays, Entry, told, without, shifted, reply, after, run, Explains, OnBoard, Change, FindsEmpty}
use Rattle.history.specs.Promises.{In, served, InTime}
use Rattle.history.proofs.Update.{update_all}
use Rattle.history.proofs.Agreeing.{change_reply, change_after, empty_reply}
use Rattle.history.proofs.Stands.{Stand, off, waiting, effected, On}
use Rattle.history.proofs.Books.{is_gave, is_worn, is_empty, sum, entry, Filed, Booked, Books}

-- What one event and perhaps one entry about r leave of all other requests.
record Extends (r n : ℕ) (h : Story) (L : List Entry) (n' : ℕ) (h' : Story) (L' : List Entry) : Type 0 where
  grows : n ≤ n'
  gave_kept : (q : ℕ) → q ≢ r → sum is_gave q L' ≡ sum is_gave q L
  worn_kept : (q : ℕ) → q ≢ r → sum is_worn q L' ≡ sum is_worn q L
  empty_kept : (q : ℕ) → q ≢ r → sum is_empty q L' ≡ sum is_empty q L
  changed : (q : ℕ) → q ≢ r → changes q h' ≡ changes q h
  answers : (q : ℕ) (a : Answer) → q ≢ r → Answered q a h' → Answered q a h
  hands : (q : ℕ) (w : Wish) → Handed q w h → Handed q w h'
  entered : (e : Entry) → In e L → In e L'

module _ (r n : ℕ) (h : Story) (L : List Entry) (n' : ℕ) (h' : Story) (L' : List Entry) (ex : Extends r n h L n' h' L') where
  booked_on : (c : Stand) → ¬ On c r → Booked n h L c → Booked n' h' L' c
  booked_on off k b = tt
  booked_on (waiting q w x) k b = (
    (let g = ex.grows in let l = b.0 in omega arith),
    (λ a y. b.1 a (ex.answers q a k y)),
    ex.hands q w b.2,
    ex.gave_kept q k ∙ b.3,
    ex.worn_kept q k ∙ b.4,
    ex.empty_kept q k ∙ b.5,
    (λ e. ex.entered _ (b.6 e)),
  )
  booked_on (effected q w x) k b = (
    (let g = ex.grows in let l = b.0 in omega arith),
    (λ a y. b.1 a (ex.answers q a k y)),
    ex.hands q w b.2,
    ex.gave_kept q k ∙ b.3,
    ex.worn_kept q k ∙ b.4,
    ex.entered _ b.5,
  )

  filed_on : (q : ℕ) (a : Answer) → q ≢ r → Filed q a L → Filed q a L'
  filed_on q a k f = ((f.0.0, ex.entered _ f.0.1), ex.gave_kept q k ∙ f.1, ex.worn_kept q k ∙ f.2)

-- what is to be shown of r itself
record Own (R : ℕ → Rule) (trays r n' : ℕ) (T' : Trays) (h' : Story) (L' : List Entry) (new : Stand) : Type 0 where
  below : r < n'
  explains : Explains R L'
  holds : (t : ℕ) → t < trays → run R L' t ≡ T' t
  handed : (e : Entry) → In e L' → Handed e.request e.wish h'
  worns : (e : Entry) → In e L' → e.answer ≡ worn → Answered e.request worn h'
  in_time : InTime h' L'
  booked : Booked n' h' L' new
  is_on : (q : ℕ) → On new q → q ≡ r
  bounds : (sum is_gave r L' + sum is_worn r L' ≤ 1) × (sum is_empty r L' ≤ 1) × (changes r h' ≡ sum is_gave r L')
  answered : (a : Answer) → Answered r a h' → Filed r a L'
  known : (q : ℕ) (w : Wish) → Handed q w h' → q < n'
  in_effect : served L' ≡ effects h'
  count : hand_ins h' ≡ n'
  numbered : Numbered h'

by_number : (Q : ℕ → Type 0) (r : ℕ) → Q r → ((q : ℕ) → q ≢ r → Q q) → (q : ℕ) → Q q
by_number Q r here there q = elim (ℕ_discrete q r) [ yes e ↦ subst Q (sym e) here | no k ↦ there q k ]

grow : {R : ℕ → Rule} {trays n : ℕ} {st : ℕ → Stand} {T : Trays} {h : Story} {L : List Entry} (s r : ℕ) (new : Stand) {n' : ℕ} {T' : Trays} {h' : Story} {L' : List Entry} →
    Books R trays n st T h L → ((t : ℕ) → t ≢ s → ¬ On (st t) r) → Extends r n h L n' h' L' → Own R trays r n' T' h' L' new → Books R trays n' (update st s new) T' h' L'
grow {R} {trays} {n} {st} {T} {h} {L} s r new {n'} {T'} {h'} {L'} b others ex own =
    record {
      explains = own.explains;
      holds = own.holds;
      handed = own.handed;
      worns = own.worns;
      in_time = own.in_time;
      booked = update_all (λ t c. Booked n' h' L' c) st s new own.booked (λ t k. booked_on r n h L n' h' L' ex (st t) (others t k) (b.booked t));
      apart = λ x y q.
          update_all (λ x c. On c q → On (update st s new y) q → x ≡ y) st s new
          (update_all (λ y c. On new q → On c q → s ≡ y) st s new (λ _ _. refl) (λ y k o p. absurd (others y k (subst (On (st y)) (own.is_on q o) p))) y)
          (λ x k. update_all (λ y c. On (st x) q → On c q → x ≡ y) st s new (λ o p. absurd (others x k (subst (On (st x)) (own.is_on q p) o))) (λ y _. b.apart x y q) y)
          x;
      bounds = by_number (λ q. (sum is_gave q L' + sum is_worn q L' ≤ 1) × (sum is_empty q L' ≤ 1) × (changes q h' ≡ sum is_gave q L')) r own.bounds
          (λ q k. let x = b.bounds q in let p = ex.gave_kept q k in let w = ex.worn_kept q k in let e = ex.empty_kept q k in let c = ex.changed q k in (omega arith, omega arith, omega arith));
      answered = by_number (λ q. (a : Answer) → Answered q a h' → (q < n') × Filed q a L') r (λ a y. (own.below, own.answered a y))
          (λ q k a y. let x = b.answered q a (ex.answers q a k y) in let g = ex.grows in let l = x.0 in (omega arith, filed_on r n h L n' h' L' ex q a k x.1));
      to_come = λ q l.
          let g = ex.grows in
          let k : q ≢ r = (λ e. let z = own.below in omega arith) in
          let x = b.to_come q (omega arith) in
          (ex.gave_kept q k ∙ x.0, ex.worn_kept q k ∙ x.1, ex.empty_kept q k ∙ x.2);
      known = own.known;
      in_effect = own.in_effect;
      count = own.count;
      numbered = own.numbered;
    }

-- The events: quiet, or about r.
abbrev Concerns : ℕ → Event → Type 0
Concerns r (handed q w) = q ≡ r
Concerns r quiet = Unit {0}
Concerns r (caused q) = q ≡ r
Concerns r (answered q a) = q ≡ r

no_effect : (r q : ℕ) (e : Event) → Concerns r e → q ≢ r → causes q e ≡ 0
no_effect r q (handed p w) c k = refl
no_effect r q quiet c k = refl
no_effect r q (caused p) c k = grind arith
no_effect r q (answered p a) c k = refl

no_answer : (r q : ℕ) (a : Answer) (e : Event) → Concerns r e → q ≢ r → ¬ Replies q a e
no_answer r q a (handed p w) c k x = x
no_answer r q a quiet c k x = x
no_answer r q a (caused p) c k x = x
no_answer r q a (answered p b) c k x = k (sym x.0 ∙ c)

pub precedes_answered : (r : ℕ) (a : Answer) (q : ℕ) (h : Story) → Precedes r a q h → Answered r a h
precedes_answered r a q [] p = absurd p
precedes_answered r a q (e ∷ h) (inl x) = inr x.2
precedes_answered r a q (e ∷ h) (inr x) = inr (precedes_answered r a q h x)

-- the order stays in time under an event that hands in none of it
in_time_on : (e : Event) (h : Story) (L : List Entry) → ((f : Entry) → In f L → (w : Wish) → ¬ Hands f.request w e) → InTime h L → InTime (e ∷ h) L
in_time_on e h [] none t = tt
in_time_on e h (f ∷ L) none t = (λ r a. elim [ inl x ↦ absurd (none f (inl refl) x.0 x.1) | inr x ↦ t.0 r a x ], in_time_on e h L (λ g i. none g (inr i)) t.1)

-- an entry that met an empty tray changes nothing
told_nothing : (g : Given) → told g ≡ was_empty → g ≡ nothing
told_nothing nothing e = refl
told_nothing (gives x ys) e = grind arith

pub nothing_happens : (R : ℕ → Rule) (w : Wish) (T : Trays) → reply R w T ≡ was_empty → after R w T ≡ T
nothing_happens R (Put t x) T e = grind arith
nothing_happens R (Take t) T e = ap (without t T) (told_nothing (yields (R t) (T t)) e)
nothing_happens R (Move f g) T e = ap (shifted R f g T) (told_nothing (yields (R f) (T f)) e)

module _ {R : ℕ → Rule} {trays n : ℕ} {st : ℕ → Stand} {T : Trays} {h : Story} {L : List Entry} (books : Books R trays n st T h L) where
  extends_tell : (r n' : ℕ) (e : Event) → n ≤ n' → Concerns r e → Extends r n h L n' (e ∷ h) L
  extends_tell r n' e l c =
      record {
        grows = l;
        gave_kept = λ q k. refl;
        worn_kept = λ q k. refl;
        empty_kept = λ q k. refl;
        changed = λ q k. let z = no_effect r q e c k in omega arith;
        answers = λ q a k. elim [ inl x ↦ absurd (no_answer r q a e c k x) | inr x ↦ x ];
        hands = λ q w x. inr x;
        entered = λ e i. i;
      }

  extends_log : (r : ℕ) (w : Wish) (a : Answer) (e : Event) → Concerns r e → Extends r n h L n (e ∷ h) (entry r w a ∷ L)
  extends_log r w a e c =
      let x = extends_tell r n e (omega arith) c in
      record {
        grows = x.grows;
        gave_kept = λ q k. grind arith;
        worn_kept = λ q k. grind arith;
        empty_kept = λ q k. grind arith;
        changed = x.changed;
        answers = x.answers;
        hands = x.hands;
        entered = λ e i. inr i;
      }

  -- all that were answered are entered
  entered_before : (r : ℕ) (e : Event) → ((w : Wish) → ¬ Hands r w e) → (q : ℕ) (a : Answer) → Precedes q a r (e ∷ h) → (w : Wish) × In (entry q w a) L
  entered_before r e none q a (inl x) = absurd (none x.0 x.1)
  entered_before r e none q a (inr x) = (books.answered q a (precedes_answered q a r h x)).1.0

  others_apart : (s r : ℕ) → On (st s) r → (t : ℕ) → t ≢ s → ¬ On (st t) r
  others_apart s r o t k p = k (books.apart t s r p o)

  -- Nothing that the ledger tells of.
  booked_quiet : (e : Event) → ((q : ℕ) (a : Answer) → ¬ Replies q a e) → (c : Stand) → Booked n h L c → Booked n (e ∷ h) L c
  booked_quiet e k off b = tt
  booked_quiet e k (waiting q w x) b = (b.0, λ a. elim [ inl y ↦ absurd (k q a y) | inr y ↦ b.1 a y ], inr b.2, b.3, b.4, b.5, b.6)
  booked_quiet e k (effected q w x) b = (b.0, λ a. elim [ inl y ↦ absurd (k q a y) | inr y ↦ b.1 a y ], inr b.2, b.3, b.4, b.5)

  pub on_quiet : (T' : Trays) → ((t : ℕ) → t < trays → T' t ≡ T t) → Books R trays n st T' (quiet ∷ h) L
  on_quiet T' same =
      record {
        explains = books.explains;
        holds = λ t l. books.holds t l ∙ sym (same t l);
        handed = λ f i. inr (books.handed f i);
        worns = λ f i q. inr (books.worns f i q);
        in_time = in_time_on quiet h L (λ f i w x. x) books.in_time;
        booked = λ s. booked_quiet quiet (λ q a x. x) (st s) (books.booked s);
        apart = books.apart;
        bounds = λ r. let b = books.bounds r in (b.0, b.1, omega arith);
        answered = λ r a. elim [ inl x ↦ absurd x | inr x ↦ books.answered r a x ];
        to_come = books.to_come;
        known = λ r w. elim [ inl x ↦ absurd x | inr x ↦ books.known r w x ];
        in_effect = books.in_effect;
        count = let z = books.count in omega arith;
        numbered = (tt, books.numbered);
      }

  -- A request that is not yet in effect meets its tray empty, for the first time.
  pub on_sight : (s r : ℕ) (w : Wish) (T' : Trays) → st s ≡ waiting r w false → reply R w (run R L) ≡ was_empty → ((t : ℕ) → t < trays → T' t ≡ T t) →
      Books R trays n (update st s (waiting r w true)) T' (quiet ∷ h) (entry r w was_empty ∷ L)
  on_sight s r w T' e right same =
      let b : Booked n h L (waiting r w false) = subst (Booked n h L) e (books.booked s) in
      let z = books.bounds r in
      let b3 = b.3 in let b4 = b.4 in let b5 = b.5 in
      grow s r (waiting r w true) books (others_apart s r (subst (λ c. On c r) (sym e) refl)) (extends_log r w was_empty quiet tt)
      (record {
        below = b.0;
        explains = (right, books.explains);
        holds = λ t l. ap (λ (F : Trays). F t) (nothing_happens R w (run R L) right) ∙ books.holds t l ∙ sym (same t l);
        handed = λ f. elim [ inl i ↦ inr (subst (λ (g : Entry). Handed g.request g.wish h) (sym i) b.2) | inr i ↦ inr (books.handed f i) ];
        worns = λ f. elim [ inl i ↦ (λ q. let x = ap (λ (g : Entry). g.answer) i in grind arith) | inr i ↦ (λ q. inr (books.worns f i q)) ];
        in_time = (entered_before r quiet (λ _ x. x), in_time_on quiet h L (λ f i w x. x) books.in_time);
        booked = (b.0, λ a. elim [ inl x ↦ x | inr x ↦ b.1 a x ], inr b.2, grind arith, grind arith, grind arith, λ _. inl refl);
        is_on = λ q o. sym o;
        bounds = (grind arith, grind arith, grind arith);
        answered = λ a. elim [ inl x ↦ absurd x | inr x ↦ absurd (b.1 a x) ];
        known = λ q w. elim [ inl x ↦ absurd x | inr x ↦ books.known q w x ];
        in_effect = books.in_effect;
        count = let z = books.count in omega arith;
        numbered = (tt, books.numbered);
      })

  -- A request takes effect.
  pub on_effect : (s r : ℕ) (w : Wish) (b : Bool) (x : ℕ) (T' : Trays) → st s ≡ waiting r w b → reply R w (run R L) ≡ gave x → ((t : ℕ) → t < trays → T' t ≡ after R w (run R L) t) →
      Books R trays n (update st s (effected r w x)) T' (caused r ∷ h) (entry r w (gave x) ∷ L)
  on_effect s r w y x T' e right same =
      let b : Booked n h L (waiting r w y) = subst (Booked n h L) e (books.booked s) in
      let z = books.bounds r in
      let b3 = b.3 in let b4 = b.4 in
      grow s r (effected r w x) books (others_apart s r (subst (λ c. On c r) (sym e) refl)) (extends_log r w (gave x) (caused r) refl)
      (record {
        below = b.0;
        explains = (right, books.explains);
        holds = λ t l. sym (same t l);
        handed = λ f. elim [ inl i ↦ inr (subst (λ (g : Entry). Handed g.request g.wish h) (sym i) b.2) | inr i ↦ inr (books.handed f i) ];
        worns = λ f. elim [ inl i ↦ (λ q. let x = ap (λ (g : Entry). g.answer) i in grind arith) | inr i ↦ (λ q. inr (books.worns f i q)) ];
        in_time = (entered_before r (caused r) (λ _ x. x), in_time_on (caused r) h L (λ f i w x. x) books.in_time);
        booked = (b.0, λ a. elim [ inl x ↦ x | inr x ↦ b.1 a x ], inr b.2, grind arith, grind arith, inl refl);
        is_on = λ q o. sym o;
        bounds = (grind arith, grind arith, grind arith);
        answered = λ a. elim [ inl x ↦ absurd x | inr x ↦ absurd (b.1 a x) ];
        known = λ q w. elim [ inl x ↦ absurd x | inr x ↦ books.known q w x ];
        in_effect = ap (λ l. r ∷ l) books.in_effect;
        count = let z = books.count in omega arith;
        numbered = (tt, books.numbered);
      })

  -- The same, told by the trays: the one is met empty, the other changes them.
  pub on_found_empty : (s r : ℕ) (w : Wish) (T' : Trays) → st s ≡ waiting r w false → OnBoard trays w → FindsEmpty w T → ((t : ℕ) → t < trays → T' t ≡ T t) →
      Books R trays n (update st s (waiting r w true)) T' (quiet ∷ h) (entry r w was_empty ∷ L)
  on_found_empty s r w T' e on found same = on_sight s r w T' e (empty_reply R trays (run R L) T books.holds w on found) same

  pub on_change : (s r : ℕ) (w : Wish) (b : Bool) (x : ℕ) (T' : Trays) → st s ≡ waiting r w b → Change R trays w x T T' → Books R trays n (update st s (effected r w x)) T' (caused r ∷ h) (entry r w (gave x) ∷ L)
  on_change s r w b x T' e c = on_effect s r w b x T' e (change_reply R trays (run R L) T T' books.holds w x c) (change_after R trays (run R L) T T' books.holds w x c)

  -- It is answered, with its parcel, or as one that met its tray empty, or as worn.
  on_answer : (s r : ℕ) (a : Answer) (T' : Trays) → On (st s) r → r < n → ((b : Answer) → ¬ Answered r b h) → Filed r a L → ((t : ℕ) → t < trays → T' t ≡ T t) → Books R trays n (update st s off) T' (answered r a ∷ h) L
  on_answer s r a T' o below new filed same =
      let z = books.bounds r in
      grow s r off books (others_apart s r o) (extends_tell r n (answered r a) (omega arith) refl)
      (record {
        below = below;
        explains = books.explains;
        holds = λ t l. books.holds t l ∙ sym (same t l);
        handed = λ f i. inr (books.handed f i);
        worns = λ f i q. inr (books.worns f i q);
        in_time = in_time_on (answered r a) h L (λ f i w x. x) books.in_time;
        booked = tt;
        is_on = λ q o. absurd o;
        bounds = (z.0, z.1, omega arith);
        answered = λ b. elim [ inl x ↦ subst (λ c. Filed r c L) x.1 filed | inr x ↦ absurd (new b x) ];
        known = λ q w. elim [ inl x ↦ absurd x | inr x ↦ books.known q w x ];
        in_effect = books.in_effect;
        count = let z = books.count in omega arith;
        numbered = (tt, books.numbered);
      })

  pub on_parcel : (s r : ℕ) (w : Wish) (x : ℕ) (T' : Trays) → st s ≡ effected r w x → ((t : ℕ) → t < trays → T' t ≡ T t) → Books R trays n (update st s off) T' (answered r (gave x) ∷ h) L
  on_parcel s r w x T' e same =
      let b : Booked n h L (effected r w x) = subst (Booked n h L) e (books.booked s) in
      on_answer s r (gave x) T' (subst (λ c. On c r) (sym e) refl) b.0 b.1 ((w, b.5), b.3, b.4) same

  pub on_empty : (s r : ℕ) (w : Wish) (T' : Trays) → st s ≡ waiting r w true → ((t : ℕ) → t < trays → T' t ≡ T t) → Books R trays n (update st s off) T' (answered r was_empty ∷ h) L
  on_empty s r w T' e same =
      let b : Booked n h L (waiting r w true) = subst (Booked n h L) e (books.booked s) in
      on_answer s r was_empty T' (subst (λ c. On c r) (sym e) refl) b.0 b.1 ((w, b.6 refl), b.3, b.4) same

  pub on_worn : (s r : ℕ) (w : Wish) (b : Bool) (T' : Trays) → st s ≡ waiting r w b → ((t : ℕ) → t < trays → T' t ≡ T t) → Books R trays n (update st s off) T' (answered r worn ∷ h) (entry r w worn ∷ L)
  on_worn s r w y T' e same =
      let b : Booked n h L (waiting r w y) = subst (Booked n h L) e (books.booked s) in
      let z = books.bounds r in
      let b3 = b.3 in let b4 = b.4 in
      grow s r off books (others_apart s r (subst (λ c. On c r) (sym e) refl)) (extends_log r w worn (answered r worn) refl)
      (record {
        below = b.0;
        explains = (tt, books.explains);
        holds = λ t l. books.holds t l ∙ sym (same t l);
        handed = λ f. elim [ inl i ↦ inr (subst (λ (g : Entry). Handed g.request g.wish h) (sym i) b.2) | inr i ↦ inr (books.handed f i) ];
        worns = λ f. elim [ inl i ↦ (λ q. inl (ap (λ (g : Entry). g.request) (sym i), refl)) | inr i ↦ (λ q. inr (books.worns f i q)) ];
        in_time = (entered_before r (answered r worn) (λ _ x. x), in_time_on (answered r worn) h L (λ f i w x. x) books.in_time);
        booked = tt;
        is_on = λ q o. absurd o;
        bounds = (grind arith, grind arith, grind arith);
        answered = λ a. elim [ inl x ↦ ((w, inl (ap (entry r w) (sym x.1))), (let y = x.1 in grind arith), (let y = x.1 in grind arith)) | inr x ↦ absurd (b.1 a x) ];
        known = λ q w. elim [ inl x ↦ absurd x | inr x ↦ books.known q w x ];
        in_effect = books.in_effect;
        count = let z = books.count in omega arith;
        numbered = (tt, books.numbered);
      })

  -- A request is handed in.
  pub on_hand_in : (s : ℕ) (w : Wish) (T' : Trays) → st s ≡ off → ((t : ℕ) → t < trays → T' t ≡ T t) → Books R trays (n + 1) (update st s (waiting n w false)) T' (handed n w ∷ h) L
  on_hand_in s w T' e same =
      let z = books.bounds n in
      let u = books.to_come n (omega arith) in
      let new : (a : Answer) → ¬ Answered n a h = (λ a x. let l = (books.answered n a x).0 in omega arith) in
      grow s n (waiting n w false) books (λ t k o. not_this (st t) (books.booked t) o) (extends_tell n (n + 1) (handed n w) (omega arith) refl)
      (record {
        below = omega arith;
        explains = books.explains;
        holds = λ t l. books.holds t l ∙ sym (same t l);
        handed = λ f i. inr (books.handed f i);
        worns = λ f i q. inr (books.worns f i q);
        in_time = in_time_on (handed n w) h L (λ f i v x. let l = books.known f.request f.wish (books.handed f i) in let y = x.0 in omega arith) books.in_time;
        booked = (omega arith, λ a. elim [ inl x ↦ x | inr x ↦ new a x ], inl (refl, refl), u.0, u.1, u.2, λ q. grind arith);
        is_on = λ q o. sym o;
        bounds = (z.0, z.1, omega arith);
        answered = λ a. elim [ inl x ↦ absurd x | inr x ↦ absurd (new a x) ];
        known = λ q v. elim [ inl x ↦ (let y = x.0 in omega arith) | inr x ↦ (let l = books.known q v x in omega arith) ];
        in_effect = books.in_effect;
        count = let z = books.count in omega arith;
        numbered = (sym books.count, books.numbered);
      })
    where
      not_this : (c : Stand) → Booked n h L c → ¬ On c n
      not_this off b o = o
      not_this (waiting q w x) b o = let l = b.0 in omega arith
      not_this (effected q w x) b o = let l = b.0 in omega arith

-- The trays may be told in another way.
pub same_trays : {R : ℕ → Rule} {trays n : ℕ} {st : ℕ → Stand} {T T' : Trays} {h : Story} {L : List Entry} → Books R trays n st T h L → ((t : ℕ) → t < trays → T' t ≡ T t) → Books R trays n st T' h L
same_trays b same =
    record {
      explains = b.explains;
      holds = λ t l. b.holds t l ∙ sym (same t l);
      handed = b.handed;
      worns = b.worns;
      in_time = b.in_time;
      in_effect = b.in_effect;
      booked = b.booked;
      apart = b.apart;
      bounds = b.bounds;
      answered = b.answered;
      to_come = b.to_come;
      known = b.known;
      count = b.count;
      numbered = b.numbered;
    }

-- A quiet event may be left out.
told_before : {A : Type 0} → ⊥ ⊎ A → A
told_before (inl x) = absurd x
told_before (inr x) = x

in_time_unquiet : (h : Story) (L : List Entry) → InTime (quiet ∷ h) L → InTime h L
in_time_unquiet h [] t = tt
in_time_unquiet h (e ∷ L) t = (λ r a p. t.0 r a (inr p), in_time_unquiet h L t.1)

booked_unquiet : (n : ℕ) (h : Story) (L : List Entry) (c : Stand) → Booked n (quiet ∷ h) L c → Booked n h L c
booked_unquiet n h L off b = tt
booked_unquiet n h L (waiting r w x) b = (b.0, λ a y. b.1 a (inr y), told_before b.2, b.3, b.4, b.5, b.6)
booked_unquiet n h L (effected r w x) b = (b.0, λ a y. b.1 a (inr y), told_before b.2, b.3, b.4, b.5)

pub unquiet : {R : ℕ → Rule} {trays n : ℕ} {st : ℕ → Stand} {T : Trays} {h : Story} {L : List Entry} → Books R trays n st T (quiet ∷ h) L → Books R trays n st T h L
unquiet {h = h} {L = L} b =
    record {
      explains = b.explains;
      holds = b.holds;
      handed = λ e i. told_before (b.handed e i);
      worns = λ e i q. told_before (b.worns e i q);
      in_time = in_time_unquiet h L b.in_time;
      in_effect = b.in_effect;
      booked = λ s. booked_unquiet _ h L _ (b.booked s);
      apart = b.apart;
      bounds = λ r. let z = b.bounds r in (z.0, z.1, omega arith);
      answered = λ r a y. b.answered r a (inr y);
      to_come = b.to_come;
      known = λ r w y. b.known r w (inr y);
      count = let z = b.count in omega arith;
      numbered = b.numbered.1;
    }

-- Before anything was handed in.
pub at_first : {R : ℕ → Rule} {trays : ℕ} {T : Trays} → ((t : ℕ) → t < trays → T t ≡ []) → Books R trays 0 (λ s. off) T [] []
at_first none =
    record {
      explains = tt;
      holds = λ t l. sym (none t l);
      handed = λ e i. i;
      worns = λ e i q. i;
      in_time = tt;
      in_effect = refl;
      booked = λ s. tt;
      apart = λ s t r o. absurd o;
      bounds = λ r. (omega arith, omega arith, refl);
      answered = λ r a y. absurd y;
      to_come = λ r l. (refl, refl, refl);
      known = λ r w y. absurd y;
      count = refl;
      numbered = tt;
    }
