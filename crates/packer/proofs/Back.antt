-- A packed file that is not too long says the texts that it was packed from.
use Rattle.std.proofs.Common.{◌≡◌, ℕ, zero, suc, ◌+◌, ◌*◌, ◌<◌, ◌≤◌, true, List, [], length, get_or, take, drop, Ok, ap, ◌∙◌, arith}
use Rattle.std.proofs.lemmas.List.FromFn.{length-map-range_with_len, get_or-map-range_with_len}
use Rattle.std.proofs.lemmas.List.{get_or_default, same_lists}
use Rattle.std.proofs.lemmas.Bool.{le-leb, and_from, cond-true}
use Rattle.index.specs.Index.{count_of, offset_of, end_of, end_before, all_lie, sound}
use Rattle.index.specs.Texts.{text_of, texts_in, texts}
use Rattle.index.proofs.Lies.{all_from_each}
use Rattle.index.proofs.Within.{is_sound}
use Rattle.packer.specs.Packed.{packed}
use Rattle.packer.proofs.Pairs.{count_back, offset_back, length_back, length_packed, texts_start, text_at, ends_within, follows}

module _ (ts : List (List ℕ)) where
  begins : (i : ℕ) → i < length ts → end_before (packed ts) i ≤ offset_of (packed ts) i
  begins zero h = omega arith
  begins (suc i) h =
      omega (arith, offset_back ts i (omega arith), length_back ts i (omega arith), offset_back ts (suc i) h, follows (2 + 4 * length ts) ts i h)

  within : (i : ℕ) → i < length ts → end_of (packed ts) i ≤ length (packed ts)
  within i h = omega (arith, offset_back ts i h, length_back ts i h, ends_within (2 + 4 * length ts) ts i h, length_packed ts)

  lie : all_lie (packed ts) (count_of (packed ts)) ≡ true
  lie =
      all_from_each (packed ts) (count_of (packed ts))
      (λ i h.
      let less : i < length ts = omega (arith, count_back ts) in
      and_from _ _ (le-leb (end_before (packed ts) i) (offset_of (packed ts) i) (begins i less)) (le-leb _ _ (within i less)))

  text_back : (i : ℕ) → i < length ts → text_of (packed ts) i ≡ get_or ts i []
  text_back i h =
      (λ j. take (length_back ts i h j) (drop (offset_back ts i h j) (packed ts))) ∙ text_at (packed ts) (2 + 4 * length ts) ts i (texts_start ts) h

  all_back : texts_in (packed ts) ≡ ts
  all_back =
      let long : length (texts_in (packed ts)) ≡ length ts = length-map-range_with_len (text_of (packed ts)) 0 _ ∙ count_back ts in
      same_lists _ _ long
      (λ k d h.
      let less : k < length ts = omega arith in
      let under : k < count_of (packed ts) = omega (arith, count_back ts) in
      get_or-map-range_with_len (text_of (packed ts)) 0 _ k k d under (omega arith) ∙ text_back k less ∙ get_or_default ts k [] d less)

  pub reads_back : length (packed ts) ≤ 16384 → texts (packed ts) ≡ Ok ts
  unfolding texts
  reads_back h =
      let ok : sound (packed ts) ≡ true = is_sound (packed ts) (omega (arith, length_packed ts)) h (omega (arith, length_packed ts, count_back ts)) lie in
      cond-true _ _ _ ok ∙ ap Ok all_back
