-- An order is read just where it is spelled.
use Rattle.std.proofs.Common.{◌≡◌, ℕ, zero, suc, ◌+◌, ◌^◌, ◌<◌, Bool, true, false, cond, eqb, List, [], ◌∷◌, length, get_or, drop, Ok, Err, Result, sym, refl, ap, ◌∙◌, subst, arith, MatchResult}
use Rattle.std.proofs.lemmas.List.{drop_all, drop_more}
use Rattle.std.proofs.lemmas.Bool.{eqb-true}
use Rattle.std.specs.List.{flat_map, AllByRecursion}
use Rattle.refusals.specs.declared.refusal.Refusal.{Refusal}
use Rattle.refusals.specs.declared.refusal.Refusal.TheVariants.{Wording}
use Rattle.orders.specs.declared.order.Order.{Order}
use Rattle.orders.specs.declared.order.Order.TheVariants.{LayQueue, LayStack, Start}
use Rattle.refusals.specs.Answered.{on_ok}
use Rattle.orders.specs.Numbers.{numbers_of}
use Rattle.orders.specs.Orders.{by_letter, order_of}
use Rattle.orders.specs.Spelled.{letter_of, numbers_in, word_of, spelled, Small, Says, Understood}
use Rattle.orders.proofs.NumberLaws.{numbers_sound, numbers_complete}
use Rattle.orders.proofs.Wordings.{ByWording, of_numbers}

-- k elements from place i on, one by one: at numerals it computes to `get_or ns 0 0 ∷ get_or ns 1 0 ∷ ..`
abbrev places : ℕ → ℕ → List ℕ → List ℕ
places zero i ns = []
places (suc k) i ns = get_or ns i 0 ∷ places k (i + 1) ns

places_from : (k i : ℕ) (ns : List ℕ) → length ns ≡ i + k → places k i ns ≡ drop i ns
places_from zero i ns e = sym (drop_all i ns (omega arith))
places_from (suc k) i ns e = ap (λ l. get_or ns i 0 ∷ l) (places_from k (i + 1) ns (omega arith)) ∙ sym (drop_more ns i 0 (omega arith))

all_places : (k : ℕ) (ns : List ℕ) → length ns ≡ k → places k 0 ns ≡ ns
all_places k ns e = places_from k 0 ns (omega arith)

-- an order that is read is the one that the text spells, and a refusal is for the wording
abbrev Sound : List ℕ → Result Order Refusal → Type 0
Sound text r = MatchResult r (Says text) (λ e. e ≡ Wording)

module _ (first : ℕ) (rest : List ℕ) where
  -- a letter that takes k numbers, of which an order is made
  module _ (letter k : ℕ) (make : List ℕ → Order) (parts : (ns : List ℕ) → length ns ≡ k → (letter_of (make ns) ≡ letter) × (numbers_in (make ns) ≡ ns)) (t : eqb first letter ≡ true) where
    arm_at : (r : Result (List ℕ) Refusal) → numbers_of k rest ≡ r → Sound (first ∷ rest) (on_ok r (λ ns. Ok (make ns)))
    arm_at (Ok ns) e =
        let listed = numbers_sound k rest ns e in
        let has = parts ns listed.count in
        let same : first ≡ letter_of (make ns) = eqb-true _ _ t ∙ sym has.0 in
        let numbers : rest ≡ flat_map word_of (numbers_in (make ns)) = listed.spelt ∙ ap (flat_map word_of) (sym has.1) in
        (subst (AllByRecursion (λ n. n < 2 ^ 32)) (sym has.1) listed.fits, λ j. same j ∷ numbers j)
    arm_at (Err d) e = subst ByWording e (of_numbers k rest)

    arm : Sound (first ∷ rest) (on_ok (numbers_of k rest) (λ ns. Ok (make ns)))
    arm = arm_at (numbers_of k rest) refl

  either : (t : Bool) (r s : Result Order Refusal) → (t ≡ true → Sound (first ∷ rest) r) → Sound (first ∷ rest) s → Sound (first ∷ rest) (cond t r s)
  either true r s p q = p refl
  either false r s p q = q

  sound : Sound (first ∷ rest) (by_letter first rest)
  sound =
      either (eqb first 82) _ _ (arm 82 0 (λ _. LayQueue) (λ ns l. (refl, all_places 0 ns l)))
      (either (eqb first 67) _ _ (arm 67 0 (λ _. LayStack) (λ ns l. (refl, all_places 0 ns l)))
      (either (eqb first 78) _ _ (arm 78 1 (λ ns. Start (get_or ns 0 0)) (λ ns l. (refl, all_places 1 ns l)))
      refl))

order_sound : (text : List ℕ) → Sound text (order_of text)
order_sound [] = refl
order_sound (first ∷ rest) = sound first rest

-- the numbers of a spelled order are read back
back : (ns : List ℕ) (make : List ℕ → Order) → AllByRecursion (λ n. n < 2 ^ 32) ns → on_ok (numbers_of (length ns) (flat_map word_of ns)) (λ ms. Ok (make ms)) ≡ Ok (make ns)
back ns make s = ap (λ r. on_ok r λ ms. Ok (make ms)) (numbers_complete ns s)

spelled_read : (o : Order) → Small o → order_of (spelled o) ≡ Ok o
spelled_read LayQueue s = back [] (λ _. LayQueue) s
spelled_read LayStack s = back [] (λ _. LayStack) s
spelled_read (Start crew) s = back (crew ∷ []) (λ ns. Start (get_or ns 0 0)) s

pub order_complete : (text : List ℕ) (o : Order) → Says text o → order_of text ≡ Ok o
order_complete text o s = ap order_of s.1 ∙ spelled_read o s.0

pub order_law : (text : List ℕ) (r : Result Order Refusal) → r ≡ order_of text → Understood text r
order_law text (Ok o) e = subst (Sound text) (sym e) (order_sound text)
order_law text (Err d) e = (
  subst (Sound text) (sym e) (order_sound text),
  λ o s. let f = order_complete text o s in let never : ◌≡◌ {A = ℕ} 0 1 = cc in absurd (omega arith),
)
