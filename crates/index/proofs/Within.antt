-- The texts of a checked file: how many there are, and what each is.
use Rattle.std.proofs.Common.{◌≡◌, ℕ, ◌+◌, ◌-◌, ◌*◌, ◌<◌, ◌≤◌, true, false, ◌&&◌, leb, List, [], length, get_or, take, drop, Ok, Err, sym, ◌∙◌, arith}
use Rattle.std.proofs.lemmas.List.FromFn.{length-map-range_with_len, get_or-map-range_with_len}
use Rattle.std.proofs.lemmas.List.{get_or_past}
use Rattle.std.proofs.lemmas.Bool.{le-leb, lt-leb, leb-true, and_parts, and_from, and_left, and_right, cond-true, cond-false}
use Rattle.refusals.specs.declared.refusal.Refusal.TheVariants.{BadIndex}
use Rattle.index.specs.Index.{count_of, offset_of, length_of, end_of, all_lie, sound}
use Rattle.index.specs.Texts.{text_of, texts_in, texts}
use Rattle.index.specs.Apart.{Apart}
use Rattle.index.proofs.Lies.{apart}

pub count_in : (file : List ℕ) → length (texts_in file) ≡ count_of file
count_in file = length-map-range_with_len (text_of file) 0 (count_of file)

-- the text that a pair of the index names, and none past the last
pub there : (file : List ℕ) (i : ℕ) → i < count_of file → (start : ℕ) → start ≡ offset_of file i → (end : ℕ) → end ≡ end_of file i
    → take (end - start) (drop start file) ≡ get_or (texts_in file) i []
there file i h start s end e =
    let long : end - start ≡ length_of file i = omega arith in
    (λ j. take (long j) (drop (s j) file)) ∙ sym (get_or-map-range_with_len (text_of file) 0 (count_of file) i i [] h (omega arith))

pub past : (file : List ℕ) (i : ℕ) → count_of file ≤ i → [] ≡ get_or (texts_in file) i []
past file i h = sym (get_or_past (texts_in file) i [] (rw count_in h))

-- the parts of the check
pub few : (file : List ℕ) → sound file ≡ true → 2 + 4 * count_of file ≤ 16384
few file e =
    let size = leb 2 (length file) && leb (length file) 16384 in
    let index = leb (2 + 4 * count_of file) (length file) in
    let short : length file ≤ 16384 = leb-true _ _ (and_parts (leb 2 (length file)) _ (and_parts size _ e).0).1 in
    let fits : 2 + 4 * count_of file ≤ length file = leb-true _ _ (and_parts index _ (and_parts size _ e).1).0 in
    omega arith

pub sound_apart : (file : List ℕ) → sound file ≡ true → Apart file
sound_apart file e =
    let size = leb 2 (length file) && leb (length file) 16384 in
    let index = leb (2 + 4 * count_of file) (length file) in
    apart file (and_parts index _ (and_parts size _ e).1).1

-- what opening a checked file says, and one that is not
pub says : (file : List ℕ) → sound file ≡ true → Ok (texts_in file) ≡ texts file
unfolding texts
says file e = sym (cond-true (sound file) _ _ e)

refuses : (file : List ℕ) → sound file ≡ false → Err BadIndex ≡ texts file
unfolding texts
refuses file e = sym (cond-false (sound file) _ _ e)

pub index_cut : (file : List ℕ) → length file < 2 + 4 * count_of file → Err BadIndex ≡ texts file
index_cut file h = refuses file (and_right _ _ (and_left _ _ (lt-leb _ _ h)))

pub too_long : (file : List ℕ) → 16384 < length file → Err BadIndex ≡ texts file
too_long file h = refuses file (and_left _ _ (and_right _ _ (lt-leb _ _ h)))

pub texts_fall : (file : List ℕ) → all_lie file (count_of file) ≡ false → Err BadIndex ≡ texts file
texts_fall file e = refuses file (and_right _ _ (and_right _ _ e))

pub is_sound : (file : List ℕ) → 2 ≤ length file → length file ≤ 16384 → 2 + 4 * count_of file ≤ length file → all_lie file (count_of file) ≡ true → sound file ≡ true
is_sound file least most index lie = and_from _ _ (and_from _ _ (le-leb _ _ least) (le-leb _ _ most)) (and_from _ _ (le-leb _ _ index) lie)
