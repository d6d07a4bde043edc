-- What has been copied is the front of the list, and what is left of the walk gives the rest of it.
use Rattle.std.proofs.Common.{◌≡◌, ℕ, zero, suc, ◌+◌, ◌<◌, ◌≤◌, List, [], ◌∷◌, ◌++◌, length, get_or, take, drop, set, Some, None, Ok, Err, Option, Result, sym, refl, ap, ◌∙◌, ap₂, append_assoc, arith, length-drop}
use Rattle.std.proofs.lemmas.List.{length-take-le, take_all, drop_all, take_more, drop_more, set_at}
use Rattle.refusals.specs.declared.refusal.Refusal.{Refusal}
use Rattle.records.specs.declared.entries.Node.{Node}
use Rattle.memory.specs.Seen.{Seen}
use Rattle.memory.specs.Reads.{on_ok}
use Rattle.walks.specs.Walked.{led_to, onward, walked_below, walked, counted, laid}

-- of the walk r, after i places: the word w is next, and the parcels `before` have become `now`
pub record Copied (m : Seen) (r : Result (List ℕ) Refusal) (before : List ℕ) (i w : ℕ) (now : List ℕ) : Type 0 where
  pub all : List ℕ
  pub whole : r ≡ Ok all
  pub turns : ℕ
  pub rest : walked_below m turns w ≡ Ok (drop i all)
  pub within : i ≤ length all
  pub after : now ≡ take i all ++ drop i before

begins : (m : Seen) (most w count : ℕ) (before : List ℕ) (r : Result (List ℕ) Refusal) → walked m most w ≡ r → Ok count ≡ counted r → Copied m r before 0 w before
begins m most w count before (Ok xs) e is = record { all = xs; whole = refl; turns = suc most; rest = e; within = omega arith; after = refl }
begins m most w count before (Err f) e is = let z : ◌≡◌ {A = ℕ} 0 1 = cc in absurd (omega arith)

pub copy_begins : (m : Seen) (most w count : ℕ) (before : List ℕ) → Ok count ≡ counted (walked m most w) → Copied m (walked m most w) before 0 w before
copy_begins m most w count before is = begins m most w count before (walked m most w) refl is

-- what was to come of a walk from a word that leads to a node
fronts : (x : ℕ) (r : Result (List ℕ) Refusal) (ys : List ℕ) → on_ok r (λ xs. Ok (x ∷ xs)) ≡ Ok ys → (xs : List ℕ) × (r ≡ Ok xs) × (ys ≡ x ∷ xs)
fronts x (Ok xs) ys e = (xs, refl, cc)
fronts x (Err f) ys e = let z : ◌≡◌ {A = ℕ} 0 1 = cc in absurd (omega arith)

-- one place more is written
written : (all before now : List ℕ) (i x : ℕ) (xs : List ℕ) → drop i all ≡ x ∷ xs → i < length before → i < length all → now ≡ take i all ++ drop i before → set now i x ≡ take (i + 1) all ++ drop (i + 1) before
written all before now i x xs e hb ha is =
    let long : length (take i all) ≡ i = length-take-le i all (omega arith) in
    let d : drop i all ≡ get_or all i 0 ∷ drop (i + 1) all = drop_more all i 0 ha in
    let here : x ≡ get_or all i 0 = cc in
    ap (λ l. set l i x) is
    ∙ ap (λ l. set (take i all ++ l) i x) (drop_more before i 0 hb)
    ∙ set_at (take i all) (get_or before i 0) (drop (i + 1) before) x i long
    ∙ ap (λ y. take i all ++ y ∷ drop (i + 1) before) here
    ∙ sym (append_assoc (take i all) (get_or all i 0 ∷ []) (drop (i + 1) before))
    ∙ ap (λ l. l ++ drop (i + 1) before) (sym (take_more all i 0 ha))

module _ (m : Seen) (r : Result (List ℕ) Refusal) (before : List ℕ) (i w : ℕ) (now : List ℕ) where
  -- the turn at w
  turn : (k : ℕ) (all : List ℕ) → walked_below m k w ≡ Ok all → (q : Result (Option Node) Refusal) → q ≡ led_to m w → (j : ℕ) × (on_ok q (λ o. onward o (λ v. walked_below m j v)) ≡ Ok all)
  turn zero all e q is = let z : ◌≡◌ {A = ℕ} 0 1 = cc in absurd (omega arith)
  turn (suc k) all e q is = (k, ap (λ p. on_ok p (λ o. onward o (λ v. walked_below m k v))) is ∙ e)

  module _ (h : Copied m r before i w now) where
    pub copy_more : (x : Node) → i < length before → Ok (Some x) ≡ led_to m w → Copied m r before (i + 1) x.next (set now i x.parcel)
    copy_more x hb is =
        let t = turn h.turns (drop i h.all) h.rest (Ok (Some x)) is in
        let f = fronts x.parcel (walked_below m t.0 x.next) (drop i h.all) t.1 in
        let ha : i < length h.all = omega (arith, length-drop i h.all, ap length f.2) in
        let d : drop i h.all ≡ get_or h.all i 0 ∷ drop (i + 1) h.all = drop_more h.all i 0 ha in
        let same : f.0 ≡ drop (i + 1) h.all = cc f.2 in
        record {
          all = h.all;
          whole = h.whole;
          turns = t.0;
          rest = f.1 ∙ ap Ok same;
          within = omega arith;
          after = written h.all before now i x.parcel f.0 f.2 hb ha h.after;
        }

    -- nil: all are copied
    pub copy_ends : i ≤ length before → Ok None ≡ led_to m w → now ≡ laid r before
    copy_ends hb is =
        let t = turn h.turns (drop i h.all) h.rest (Ok None) is in
        let none : [] ≡ drop i h.all = cc t.1 in
        let end : length h.all ≤ i = omega (arith, length-drop i h.all, ap length none) in
        let exact : i ≡ length h.all = omega (arith, h.within) in
        h.after
        ∙ ap₂ ◌++◌ (take_all i h.all end ∙ sym (take_all (length before) h.all (omega arith))) (ap (λ n. drop n before) exact)
        ∙ ap (λ q. laid q before) (sym h.whole)

    -- there is room for no more
    pub copy_full : i ≡ length before → now ≡ laid r before
    copy_full full =
        h.after
        ∙ ap₂ ◌++◌ (ap (λ n. take n h.all) full) (drop_all i before (omega arith) ∙ sym (drop_all (length h.all) before (omega (arith, h.within))))
        ∙ ap (λ q. laid q before) (sym h.whole)

    -- the walk was counted, so it comes to no refusal
    pub copy_sure : (e : Refusal) → Err e ≡ led_to m w → ⊥
    copy_sure e is =
        let t = turn h.turns (drop i h.all) h.rest (Err e) is in
        let z : ◌≡◌ {A = ℕ} 0 1 = cc t.1 in omega arith

-- a refusal of the count leaves all as it was
pub copy_refused : (r : Result (List ℕ) Refusal) (e : Refusal) (before : List ℕ) → Err e ≡ counted r → before ≡ laid r before
copy_refused (Ok xs) e before is = let z : ◌≡◌ {A = ℕ} 0 1 = cc in absurd (omega arith)
copy_refused (Err f) e before is = refl
