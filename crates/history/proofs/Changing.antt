-- The changes of the plain lists: the plain rule inserts and removes one parcel, and what the plain lists answer names the change that they make.
use Rattle.std.proofs.Common.{◌≡◌, refl, sym, ◌∙◌, ap, subst, List, [], ◌∷◌, ◌++◌, ℕ, zero, suc, ◌<◌, le_of_suc-le-suc, add-one, arith, length, take, drop, get_or}
use Rattle.records.specs.declared.scanner.Wish.{Wish}
use Rattle.records.specs.declared.scanner.Wish.TheVariants.{Put, Take, Move}
use Rattle.kinds.specs.Plain.{Rule, Within, adds, Given, nothing, gives, yields}
use Rattle.history.specs.Update.{update}
use Rattle.history.specs.Events.{gave}
use Rattle.history.specs.PlainLists.{Trays, told, without, shifted, reply, after, Inserted, here, later, Rightly, OnBoard, Change, ByOne, Means, PlainChange}
use Rattle.history.proofs.Update.{update_same, update_other}

inserted_at : (i x : ℕ) (xs : List ℕ) → Inserted x xs (take i xs ++ x ∷ drop i xs)
inserted_at zero x xs = here
inserted_at (suc i) x [] = here
inserted_at (suc i) x (y ∷ xs) = later (inserted_at i x xs)

removed_at : (i : ℕ) (xs : List ℕ) → i < length xs → Inserted (get_or xs i 0) (take i xs ++ drop (suc i) xs) xs
removed_at i [] l = absurd (omega arith)
removed_at zero (x ∷ xs) l = here
removed_at (suc i) (x ∷ xs) l = later (removed_at i xs (le_of_suc-le-suc l))

-- a put inserts its parcel
pub adds_inserted : (r : Rule) (x : ℕ) (xs : List ℕ) → Inserted x xs (adds r x xs)
adds_inserted r x xs = inserted_at (r.adds_at x xs) x xs

-- a take gives a parcel that is there, and leaves the others
pub yields_rightly : (r : Rule) → Within r → (xs : List ℕ) → Rightly xs (yields r xs)
yields_rightly r i [] = refl
yields_rightly r i (x ∷ xs) =
    subst (λ k. Inserted (get_or (x ∷ xs) (r.gives_at (x ∷ xs)) 0) (take (r.gives_at (x ∷ xs)) (x ∷ xs) ++ drop k (x ∷ xs)) (x ∷ xs)) (sym (add-one _))
    (removed_at (r.gives_at (x ∷ xs)) (x ∷ xs) (i.gives_within x xs))

given_inserted : (r : Rule) → Within r → (xs : List ℕ) (x : ℕ) (ys : List ℕ) → yields r xs ≡ gives x ys → Inserted x ys xs
given_inserted r i xs x ys e = subst (Rightly xs) e (yields_rightly r i xs)

-- a change by the plain rule is of one parcel
pub change_inserts : (R : ℕ → Rule) → ((t : ℕ) → Within (R t)) → (trays : ℕ) (w : Wish) (x : ℕ) (T T' : Trays) → Change R trays w x T T' → ByOne w x T T'
change_inserts R i trays (Put t y) x T T' c = subst (Inserted x (T t)) (sym c.2) (adds_inserted (R t) x (T t))
change_inserts R i trays (Take t) x T T' c = given_inserted (R t) (i t) (T t) x (T' t) c.1
change_inserts R i trays (Move f g) x T T' c = (given_inserted (R f) (i f) (T f) x (T' f) c.3, subst (Inserted x (T g)) (sym c.4) (adds_inserted (R g) x (T g)))

yields_none : (r : Rule) (xs : List ℕ) → yields r xs ≡ nothing → xs ≡ []
yields_none r [] e = refl
yields_none r (x ∷ xs) e = absurd (grind arith)

-- what the plain lists answer names the change that they make
pub after_changes : (R : ℕ → Rule) (trays : ℕ) (w : Wish) → OnBoard trays w → (T : Trays) (x : ℕ) → reply R w T ≡ gave x → Change R trays w x T (after R w T)
after_changes R trays (Put t y) l T x e =
    let same : y ≡ x = grind arith in
    (l, same, update_same T t _ ∙ ap (λ z. adds (R t) z (T t)) same, λ u _ k. update_other T t _ u k)
after_changes R trays (Take t) l T x e = go (yields (R t) (T t)) refl e
  where
    go : (g : Given) → yields (R t) (T t) ≡ g → told g ≡ gave x → Change R trays (Take t) x T (without t T g)
    go nothing y e = absurd (grind arith)
    go (gives z ys) y e =
        let same : z ≡ x = grind arith in
        (l, y ∙ ap (λ k. gives k ys) same ∙ ap (gives x) (sym (update_same T t ys)), λ u _ k. update_other T t ys u k)
after_changes R trays (Move f g) l T x e = go (yields (R f) (T f)) refl e
  where
    go : (p : Given) → yields (R f) (T f) ≡ p → told p ≡ gave x → Change R trays (Move f g) x T (shifted R f g T p)
    go nothing y e = absurd (grind arith)
    go (gives z ys) y e =
        let same : z ≡ x = grind arith in (
          l.0,
          l.1,
          l.2,
          y ∙ ap (λ k. gives k ys) same ∙ ap (gives x) (sym (update_other (update T f ys) g _ f l.2 ∙ update_same T f ys)),
          update_same (update T f ys) g _ ∙ ap (λ k. adds (R g) k (T g)) same,
          λ u _ k k'. update_other (update T f ys) g _ u k' ∙ update_other T f ys u k,
        )

pub plain_change : PlainChange
plain_change R i trays (Put t y) l T = let c = after_changes R trays (Put t y) l T y refl in (c, change_inserts R i trays (Put t y) y T _ c)
plain_change R i trays (Take t) l T = go (yields (R t) (T t)) refl
  where
    go : (g : Given) → yields (R t) (T t) ≡ g → Means R trays (Take t) (told g) T (without t T g)
    go nothing y = (yields_none (R t) (T t) y, λ u. refl)
    go (gives x ys) y =
        let c = subst (λ g. Change R trays (Take t) x T (without t T g)) y (after_changes R trays (Take t) l T x (ap told y)) in
        (c, change_inserts R i trays (Take t) x T _ c)
plain_change R i trays (Move f g) l T = go (yields (R f) (T f)) refl
  where
    go : (p : Given) → yields (R f) (T f) ≡ p → Means R trays (Move f g) (told p) T (shifted R f g T p)
    go nothing y = (yields_none (R f) (T f) y, λ u. refl)
    go (gives x ys) y =
        let c = subst (λ p. Change R trays (Move f g) x T (shifted R f g T p)) y (after_changes R trays (Move f g) l T x (ap told y)) in
        (c, change_inserts R i trays (Move f g) x T _ c)
