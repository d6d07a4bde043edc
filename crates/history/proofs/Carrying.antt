-- The change of a request is of the parcel that it was answered with: the moments and the one order tell the same effects one after the other.
use Rattle.std.proofs.Common.{◌≡◌, refl, sym, ◌∙◌, ap, subst, inl, inr, List, [], ◌∷◌, ℕ, ◌<◌, ◌≤◌, arith}
use Rattle.records.specs.declared.scanner.Wish.{Wish}
use Rattle.kinds.specs.Plain.{Rule}
use Rattle.history.specs.Events.{Answer, gave, was_empty, worn, Event, handed, quiet, caused, answered, Story, Hands, hand_ins, Numbers, Numbered, Handed, Answered, changes, effects}
use Rattle.history.specs.PlainLists.{Trays, Entry, reply, after, Right, run, Explains, Change}
use Rattle.history.specs.Promises.{In, times, adds_served, served, OneOrder, Does, Moment, events, Traced, due, Among, OneChange, OrderCarries}
use Rattle.history.proofs.Books.{entry}
use Rattle.history.proofs.Ledger.{nothing_happens}
use Rattle.history.proofs.Agreeing.{Agree, change_reply, change_after}

-- A request has one wish: its number was given once.
below_hand_ins : (r : ℕ) (w : Wish) (h : Story) → Numbered h → Handed r w h → r < hand_ins h
below_hand_ins r w [] n x = absurd x
below_hand_ins r w (handed q v ∷ h) n (inl x) = let a = n.0 in let b = x.0 in omega arith
below_hand_ins r w (quiet ∷ h) n (inl x) = absurd x
below_hand_ins r w (caused q ∷ h) n (inl x) = absurd x
below_hand_ins r w (answered q a ∷ h) n (inl x) = absurd x
below_hand_ins r w (e ∷ h) n (inr x) = let l = below_hand_ins r w h n.1 x in omega arith

-- no event hands in what was handed in before
twice : (r : ℕ) (v w : Wish) (e : Event) (h : Story) → Numbers (hand_ins h) e → Numbered h → Hands r v e → ¬ Handed r w h
twice r v w (handed q u) h e n x y = let l = below_hand_ins r w h n y in let z = x.0 in omega arith
twice r v w quiet h e n x y = x
twice r v w (caused q) h e n x y = x
twice r v w (answered q a) h e n x y = x

same_hand_in : (r : ℕ) (v w : Wish) (e : Event) → Hands r v e → Hands r w e → v ≡ w
same_hand_in r v w (handed q u) x y = sym x.1 ∙ y.1
same_hand_in r v w quiet x y = absurd x
same_hand_in r v w (caused q) x y = absurd x
same_hand_in r v w (answered q a) x y = absurd x

pub one_wish : (r : ℕ) (v w : Wish) (h : Story) → Numbered h → Handed r v h → Handed r w h → v ≡ w
one_wish r v w [] n x y = absurd x
one_wish r v w (e ∷ h) n (inr x) (inr y) = one_wish r v w h n.1 x y
one_wish r v w (e ∷ h) n (inl x) (inl y) = same_hand_in r v w e x y
one_wish r v w (e ∷ h) n (inl x) (inr y) = absurd (twice r v w e h n.0 n.1 x y)
one_wish r v w (e ∷ h) n (inr x) (inl y) = absurd (twice r w v e h n.0 n.1 y x)

-- A request stands once in the order, so with one answer.
counted : (e : Entry) (L : List Entry) → In e L → 1 ≤ times e.request L
counted e [] i = absurd i
counted e (f ∷ L) (inl i) = let q = ap (λ (g : Entry). g.request) i in grind arith
counted e (f ∷ L) (inr i) = let l = counted e L i in omega arith

pub one_entry : (d e : Entry) (L : List Entry) → times e.request L ≤ 1 → d.request ≡ e.request → In d L → In e L → d ≡ e
one_entry d e [] l q i j = absurd i
one_entry d e (f ∷ L) l q (inl i) (inl j) = i ∙ sym j
one_entry d e (f ∷ L) l q (inl i) (inr j) = absurd (let c = counted e L j in let p = ap (λ (g : Entry). g.request) i in grind arith)
one_entry d e (f ∷ L) l q (inr i) (inl j) = absurd (let c = counted d L i in let p = ap (λ (g : Entry). g.request) j in grind arith)
one_entry d e (f ∷ L) l q (inr i) (inr j) = one_entry d e L (omega arith) q i j

cons_parts : (a b : ℕ) (l k : List ℕ) → a ∷ l ≡ b ∷ k → (a ≡ b) × (l ≡ k)
cons_parts a b l k e = (cc, cc)

no_cons : (a : ℕ) (l : List ℕ) → ¬ (◌≡◌ {A = List ℕ} [] (a ∷ l))
no_cons a l e = grind arith

-- The last request of an order that has a parcel, and the order before it. What stands behind it changes nothing.
record LastServed (R : ℕ → Rule) (L : List Entry) (r : ℕ) (rs : List ℕ) : Type 0 where
  wish : Wish
  parcel : ℕ
  rest : List Entry
  stands : In (entry r wish (gave parcel)) L
  replies : reply R wish (run R rest) ≡ gave parcel
  leaves : run R L ≡ after R wish (run R rest)
  explains : Explains R rest
  serves : served rest ≡ rs
  within : (e : Entry) → In e rest → In e L

behind : (R : ℕ → Rule) (e : Entry) (L : List Entry) (r : ℕ) (rs : List ℕ) → run R (e ∷ L) ≡ run R L → LastServed R L r rs → LastServed R (e ∷ L) r rs
behind R e L r rs same l =
    record {
      wish = l.wish;
      parcel = l.parcel;
      rest = l.rest;
      stands = inr l.stands;
      replies = l.replies;
      leaves = same ∙ l.leaves;
      explains = l.explains;
      serves = l.serves;
      within = λ f i. inr (l.within f i);
    }

last_served : (R : ℕ → Rule) (L : List Entry) → Explains R L → (r : ℕ) (rs : List ℕ) → served L ≡ r ∷ rs → LastServed R L r rs
last_served R [] x r rs e = absurd (no_cons r rs e)
last_served R (f ∷ L) x r rs e = go f.answer x.0 e (last_served R L x.1 r rs)
  where
    go : (a : Answer) → Right R f.wish a (run R L) → adds_served f.request a (served L) ≡ r ∷ rs → (served L ≡ r ∷ rs → LastServed R L r rs) → LastServed R (entry f.request f.wish a ∷ L) r rs
    go (gave y) right e more =
        let p = cons_parts f.request r (served L) rs e in
        record {
          wish = f.wish;
          parcel = y;
          rest = L;
          stands = inl (ap (λ q. entry q f.wish (gave y)) (sym p.0));
          replies = right;
          leaves = refl;
          explains = x.1;
          serves = p.1;
          within = λ g i. inr i;
        }
    go was_empty right e more = behind R _ L r rs (nothing_happens R f.wish (run R L) right) (more e)
    go worn right e more = behind R _ L r rs refl (more e)

-- an order in which none has a parcel leaves the trays empty
none_served : (R : ℕ → Rule) (L : List Entry) → Explains R L → served L ≡ [] → (t : ℕ) → run R L t ≡ []
none_served R [] x e t = refl
none_served R (f ∷ L) x e t = go f.answer x.0 e (λ e. none_served R L x.1 e t)
  where
    go : (a : Answer) → Right R f.wish a (run R L) → adds_served f.request a (served L) ≡ [] → (served L ≡ [] → run R L t ≡ []) → run R (entry f.request f.wish a ∷ L) t ≡ []
    go (gave y) right e more = absurd (no_cons f.request (served L) (sym e))
    go was_empty right e more = ap (λ (F : Trays). F t) (nothing_happens R f.wish (run R L) right) ∙ more e
    go worn right e more = more e

same_gave : {x y : ℕ} → gave x ≡ gave y → x ≡ y
same_gave {x} {y} e = cc

same_cause : {r q : ℕ} → caused r ≡ caused q → r ≡ q
same_cause {r} {q} e = cc

-- What the moments and an order of their effects say together.
record BothTell (R : ℕ → Rule) (trays : ℕ) (L : List Entry) (ms : List Moment) (now : Trays) : Type 0 where
  agree : Agree trays (run R L) now
  names : (m : Moment) → Among m ms → (r : ℕ) → m.event ≡ caused r → (w : Wish) × (x : ℕ) × In (entry r w (gave x)) L × Change R trays w x m.before m.later

effect_of : (e : Event) (r : ℕ) → e ≡ caused r → effects (e ∷ []) ≡ r ∷ []
effect_of e r q = ap (λ z. effects (z ∷ [])) q

module _ (R : ℕ → Rule) (trays : ℕ) (h : Story) (num : Numbered h) where
  -- an event that changes nothing
  both_stay : (L : List Entry) (m : Moment) (ms : List Moment) (now : Trays) → effects (m.event ∷ []) ≡ [] → Agree trays now m.later → Agree trays m.later m.before → BothTell R trays L ms m.before → BothTell R trays L (m ∷ ms) now
  both_stay L m ms now none link stay b =
      record {
        agree = λ t l. b.agree t l ∙ sym (stay t l) ∙ sym (link t l);
        names = λ k. elim [ inl i ↦ (λ r q. absurd (no_cons r [] (sym none ∙ effect_of m.event r (sym (ap (λ (z : Moment). z.event) i) ∙ q)))) | inr i ↦ b.names k i ];
      }

  -- an effect: the order names the same parcel
  both_change : (L : List Entry) (m : Moment) (ms : List Moment) (now : Trays) (r : ℕ) → m.event ≡ caused r → Agree trays now m.later → ((v : Wish) → Handed r v (events ms) → Handed r v h) →
      (p : LastServed R L r (effects (events ms))) → Handed r p.wish h → Does R trays (events ms) (caused r) m.before m.later → BothTell R trays p.rest ms m.before → BothTell R trays L (m ∷ ms) now
  both_change L m ms now r q link known p wished does b =
      let same : does.0 ≡ p.wish = one_wish r does.0 p.wish h num (known does.0 does.2) wished in
      let c : Change R trays p.wish does.1 m.before m.later = subst (λ w. Change R trays w does.1 m.before m.later) same does.3 in
      let parcel : does.1 ≡ p.parcel = same_gave (sym (change_reply R trays (run R p.rest) m.before m.later b.agree p.wish does.1 c) ∙ p.replies) in
      record {
        agree = λ t l. ap (λ (F : Trays). F t) p.leaves ∙ sym (change_after R trays (run R p.rest) m.before m.later b.agree p.wish does.1 c t l) ∙ sym (link t l);
        names = λ k. elim [
          | inl i ↦ (λ z y.
              let e : r ≡ z = same_cause (sym q ∙ sym (ap (λ (z : Moment). z.event) i) ∙ y) in
              subst (λ z. (w : Wish) × (x : ℕ) × In (entry z w (gave x)) L × Change R trays w x k.before k.later) e (
                p.wish,
                p.parcel,
                p.stands,
                subst (λ (k : Moment). Change R trays p.wish p.parcel k.before k.later) (sym i) (subst (λ y. Change R trays p.wish y m.before m.later) parcel c),
              ))
          | inr i ↦ (λ z y. let n = b.names k i z y in (n.0, n.1, p.within _ n.2, n.3))
        ];
      }

  both_tell : (L : List Entry) (ms : List Moment) (now : Trays) → Explains R L → served L ≡ effects (events ms) → ((e : Entry) → In e L → Handed e.request e.wish h) →
      ((r : ℕ) (w : Wish) → Handed r w (events ms) → Handed r w h) → Traced R trays ms now → BothTell R trays L ms now
  both_tell L [] now x e only known tr = record { agree = λ t l. none_served R L x e t ∙ sym (tr t l); names = λ m i. absurd i }
  both_tell L (m ∷ ms) now x e only known tr = go m.event refl e tr.1 (λ K y f o. both_tell K ms m.before y f o (λ r w z. known r w (inr z)) tr.2)
    where
      go : (d : Event) → m.event ≡ d → served L ≡ effects (d ∷ events ms) → Does R trays (events ms) d m.before m.later →
          ((K : List Entry) → Explains R K → served K ≡ effects (events ms) → ((e : Entry) → In e K → Handed e.request e.wish h) → BothTell R trays K ms m.before) → BothTell R trays L (m ∷ ms) now
      go (handed r w) q e does before = both_stay L m ms now (ap (λ d. effects (d ∷ [])) q) tr.0 does (before L x e only)
      go quiet q e does before = both_stay L m ms now (ap (λ d. effects (d ∷ [])) q) tr.0 does (before L x e only)
      go (answered r a) q e does before = both_stay L m ms now (ap (λ d. effects (d ∷ [])) q) tr.0 does (before L x e only)
      go (caused r) q e does before =
          let p = last_served R L x r (effects (events ms)) e in
          let b = before p.rest p.explains p.serves (λ f i. only f (p.within f i)) in
          both_change L m ms now r q tr.0 (λ v z. known r v (inr z)) p (only _ p.stands) does b

pub order_carries : OrderCarries
order_carries R trays ms now o tr r x m i q y =
    let b = both_tell R trays (events ms) o.numbered o.order ms now o.explains o.in_effect o.only (λ r w z. z) tr in
    let n = b.names m i r q in
    let a = o.every r (gave x) y in
    let same : entry r n.0 (gave n.1) ≡ entry r a.0 (gave x) = one_entry _ _ o.order (o.once r) refl n.2 a.1 in
    let parcel : n.1 ≡ x = same_gave (ap (λ (e : Entry). e.answer) same) in
    (n.0, o.only _ n.2, subst (λ y. Change R trays n.0 y m.before m.later) parcel n.3)

-- The one order, the trace and the counts make the second promise.
pub one_change : (R : ℕ → Rule) (trays : ℕ) (ms : List Moment) (now : Trays) → OneOrder R trays (events ms) now → Traced R trays ms now →
    ((r : ℕ) (a : Answer) → Answered r a (events ms) → changes r (events ms) ≡ due a) × ((r : ℕ) → changes r (events ms) ≤ 1) → OneChange R trays ms now
one_change R trays ms now o tr counts = record { traced = tr; answered = counts.0; at_most = counts.1; carries = order_carries R trays ms now o tr }
