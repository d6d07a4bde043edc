-- The pairs of the index, and the numbers in them.
use Rattle.std.proofs.Common.{◌≡◌, ℕ, zero, suc, ◌+◌, ◌*◌, ◌<◌, ◌≤◌, List, [], ◌∷◌, map, length, get_or, take, drop, sym, refl, ap, ◌∙◌, arith}
use Rattle.std.specs.List.{range_with_len}
use Rattle.std.specs.Simd.{first_chunks}
use Rattle.std.proofs.lemmas.List.FromFn.{length-map-range_with_len, get_or-map-range_with_len}
use Rattle.std.proofs.lemmas.List.{get_or-take, get_or-drop, drop-drop, length-take-le, same_lists}
use Rattle.index.specs.Texts.{text_of, texts_in}
use Rattle.index.specs.Left.{text_by}
use Rattle.index.specs.Index.{number_at, count_of, offset_of, length_of, end_of, pair_of, pairs_in}

length_pairs : (file : List ℕ) → length (pairs_in file) ≡ count_of file
length_pairs file = length-map-range_with_len (pair_of file) 0 (count_of file)

pair_at : (file : List ℕ) (i : ℕ) (d : List ℕ) → i < count_of file → get_or (pairs_in file) i d ≡ pair_of file i
pair_at file i d h = get_or-map-range_with_len (pair_of file) 0 (count_of file) i i d h (omega arith)

-- the bytes of a pair, and the numbers that they are
byte_in : (file : List ℕ) (i j m : ℕ) → j < 4 → 2 + 4 * i + j ≡ m → get_or (pair_of file i) j 0 ≡ get_or file m 0
byte_in file i j m h e = get_or-take 4 (drop (2 + 4 * i) file) j 0 h ∙ get_or-drop (2 + 4 * i) file j 0 ∙ ap (λ k. get_or file k 0) e

start_in : (file : List ℕ) (i : ℕ) → number_at (pair_of file i) 0 ≡ offset_of file i
start_in file i =
    let low = byte_in file i 0 (2 + 4 * i) (omega arith) (omega arith) in
    let high = byte_in file i 1 (2 + 4 * i + 1) (omega arith) (omega arith) in
    λ j. low j + 256 * high j

long_in : (file : List ℕ) (i : ℕ) → number_at (pair_of file i) 2 ≡ length_of file i
long_in file i =
    let low = byte_in file i 2 (4 + 4 * i) (omega arith) (omega arith) in
    let high = byte_in file i 3 (4 + 4 * i + 1) (omega arith) (omega arith) in
    λ j. low j + 256 * high j

-- an index that is the pairs of a file: how many there are, and where the text of each begins and ends
module _ (file : List ℕ) (index : List (List ℕ)) (is : index ≡ pairs_in file) where
  pub many : length index ≡ count_of file
  many = ap length is ∙ length_pairs file

  module _ (i : ℕ) (h : i < length index) (pair d : List ℕ) (at : pair ≡ get_or index i d) where
    same : pair ≡ pair_of file i
    same = at ∙ ap (λ l. get_or l i d) is ∙ pair_at file i d (omega (arith, many))

    pub starts : number_at pair 0 ≡ offset_of file i
    starts = ap (λ p. number_at p 0) same ∙ start_in file i

    pub ends : number_at pair 0 + number_at pair 2 ≡ end_of file i
    ends = ap (λ p. number_at p 0 + number_at p 2) same ∙ (λ j. start_in file i j + long_in file i j)

-- a file cut into pieces of four bytes behind its count
piece_at : (k : ℕ) (xs : List ℕ) (i : ℕ) (d : List ℕ) → i < k → get_or (first_chunks 4 k xs) i d ≡ take 4 (drop (4 * i) xs)
piece_at zero xs i d h = absurd (omega arith)
piece_at (suc k) xs zero d h = refl
piece_at (suc k) xs (suc i) d h =
    let next : 4 + 4 * i ≡ 4 * suc i = omega arith in
    piece_at k (drop 4 xs) i d (omega arith) ∙ ap (take 4) (drop-drop (4 * i) 4 xs ∙ ap (λ m. drop m xs) next)

length_pieces : (k : ℕ) (xs : List ℕ) → length (first_chunks 4 k xs) ≡ k
length_pieces zero xs = refl
length_pieces (suc k) xs = ap suc (length_pieces k (drop 4 xs))

pub pieces : (file : List ℕ) (k : ℕ) → count_of file ≤ k → take (count_of file) (first_chunks 4 k (drop 2 file)) ≡ pairs_in file
pieces file k h =
    let all = first_chunks 4 k (drop 2 file) in
    let long : length (take (count_of file) all) ≡ count_of file = length-take-le (count_of file) all (omega (arith, length_pieces k (drop 2 file))) in
    same_lists _ _ (long ∙ sym (length_pairs file))
    (λ i d less.
    let under : i < count_of file = omega arith in
    get_or-take (count_of file) all i d under
    ∙ piece_at k (drop 2 file) i d (omega arith)
    ∙ ap (take 4) (drop-drop (4 * i) 2 file)
    ∙ sym (pair_at file i d under))

-- the texts that the pairs name are those that the file says
text_in : (file : List ℕ) (i : ℕ) → text_by file (pair_of file i) ≡ text_of file i
text_in file i = λ j. take (long_in file i j) (drop (start_in file i j) file)

same_texts : (file : List ℕ) (ns : List ℕ) → map (text_by file) (map (pair_of file) ns) ≡ map (text_of file) ns
same_texts file [] = refl
same_texts file (i ∷ is) = λ j. text_in file i j ∷ same_texts file is j

pub texts_by_pairs : (file : List ℕ) (index : List (List ℕ)) → index ≡ pairs_in file → map (text_by file) index ≡ texts_in file
texts_by_pairs file index e = ap (map (text_by file)) e ∙ same_texts file (range_with_len 0 (count_of file))
