-- The check of all texts, and the check of each.
use Rattle.std.proofs.Common.{◌≡◌, ℕ, zero, suc, ◌+◌, ◌<◌, ◌≤◌, true, false, List, length, Decides, sym, refl, ap, inl, inr, add-one, arith}
use Rattle.std.proofs.lemmas.Bool.{leb-true, le-leb, lt-leb, and_parts, and_from, and_left, and_right, both_ways, cases_Bool, cases_order}
use Rattle.std.proofs.lemmas.Bool.Decides.{Decides-below_and}
use Rattle.index.specs.Index.{count_of, offset_of, end_of, end_before, lies, all_lie}
use Rattle.index.specs.Apart.{Apart}

each : (file : List ℕ) (n : ℕ) → Decides (all_lie file n) ((k : ℕ) → k < n → lies file k ≡ true)
each file = Decides-below_and (lies file) (λ k. lies file k ≡ true) (all_lie file) (λ k. (λ e. e, λ e. e)) refl (λ _. refl)

pub one_lies : (file : List ℕ) (n i : ℕ) → all_lie file n ≡ true → i < n → lies file i ≡ true
one_lies file n i e h = (each file n).0 e i h

pub all_from_each : (file : List ℕ) (n : ℕ) → ((k : ℕ) → k < n → lies file k ≡ true) → all_lie file n ≡ true
all_from_each file n h = (each file n).1 h

not_all : (file : List ℕ) (n i : ℕ) → i < n → lies file i ≡ false → all_lie file n ≡ false
not_all file n i h e = elim (cases_Bool (all_lie file n)) [ inl t ↦ absurd (both_ways (lies file i) e (one_lies file n i t h)) | inr f ↦ f ]

-- the text i, which begins at or after `end`, where the one before it ends
module _ (file : List ℕ) (i end : ℕ) (inv : (all_lie file i ≡ true) × (end ≡ end_before file i)) where
  pub begins_early : (n : ℕ) → i < n → offset_of file i < end → false ≡ all_lie file n
  begins_early n h l = sym (not_all file n i h (and_left _ _ (lt-leb (end_before file i) (offset_of file i) (omega arith))))

  pub leaves : (n : ℕ) → i < n → length file < end_of file i → false ≡ all_lie file n
  leaves n h l = sym (not_all file n i h (and_right _ _ (lt-leb _ _ l)))

  pub one_more : end ≤ offset_of file i → end_of file i ≤ length file → all_lie file (i + 1) ≡ true
  one_more l m = rw add-one (and_from _ _ (and_from _ _ (le-leb (end_before file i) (offset_of file i) (omega arith)) (le-leb _ _ m)) inv.0)

pub end_before_more : (file : List ℕ) (i : ℕ) → end_of file i ≡ end_before file (i + 1)
end_before_more file i = ap (end_before file) (sym (add-one i))

-- what the check says of the places of the texts
module _ (file : List ℕ) (e : all_lie file (count_of file) ≡ true) where
  inside : (i : ℕ) → i < count_of file → end_of file i ≤ length file
  inside i h = leb-true _ _ (and_parts _ _ (one_lies file _ i e h)).1

  begins : (i : ℕ) → i < count_of file → end_before file i ≤ offset_of file i
  begins i h = leb-true _ _ (and_parts _ _ (one_lies file _ i e h)).0

  in_turn : (i j : ℕ) → i < j → j < count_of file → end_of file i ≤ offset_of file j
  in_turn i zero h l = absurd (omega arith)
  in_turn i (suc j) h l =
      let here : end_of file j ≤ offset_of file (suc j) = begins (suc j) l in
      elim (cases_order i j) [ inl same ↦ rw same here | inr (inl less) ↦ let before = in_turn i j less (omega arith) in omega arith | inr (inr more) ↦ absurd (omega arith) ]

  pub apart : Apart file
  apart = record { inside = inside; in_turn = in_turn }
