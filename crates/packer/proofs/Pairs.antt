-- What is read back of the numbers of a packed file.
use Rattle.std.proofs.Common.{◌≡◌, ℕ, zero, suc, ◌+◌, ◌*◌, ◌/◌, ◌%◌, ◌<◌, ◌≤◌, List, [], ◌∷◌, ◌++◌, length, get_or, take, drop, sym, refl, ap, ◌∙◌, arith}
use Rattle.std.proofs.lemmas.List.{length-append, get_or-append-add, drop-drop, take_at, drop_at}
use Rattle.index.specs.Index.{number_at, count_of, offset_of, length_of}
use Rattle.packer.specs.Packed.{number_bytes, pairs_from, all_bytes, packed}

-- a number is read back, at the front of a file and further on
reads_front : (n : ℕ) → n % 256 + 256 * (n / 256) ≡ n
reads_front n = omega arith

reads_past : (xs ys : List ℕ) (k m : ℕ) → m ≡ length xs + k → number_at (xs ++ ys) m ≡ number_at ys k
reads_past xs ys k m e =
    let next : m + 1 ≡ length xs + (k + 1) = omega arith in
    let low : get_or (xs ++ ys) m 0 ≡ get_or ys k 0 = ap (λ i. get_or (xs ++ ys) i 0) e ∙ get_or-append-add xs ys k 0 in
    let high : get_or (xs ++ ys) (m + 1) 0 ≡ get_or ys (k + 1) 0 = ap (λ i. get_or (xs ++ ys) i 0) next ∙ get_or-append-add xs ys (k + 1) 0 in
    λ j. low j + 256 * high j

-- where text i lies, if the first lies at `from`
abbrev pub start_of : ℕ → List (List ℕ) → ℕ → ℕ
start_of from [] i = from
start_of from (t ∷ ts) zero = from
start_of from (t ∷ ts) (suc i) = start_of (from + length t) ts i

offset_in : (from : ℕ) (ts : List (List ℕ)) (rest : List ℕ) (i : ℕ) → i < length ts → number_at (pairs_from from ts ++ rest) (4 * i) ≡ start_of from ts i
offset_in from [] rest i h = absurd (omega arith)
offset_in from (t ∷ ts) rest zero h = reads_front from
offset_in from (t ∷ ts) rest (suc i) h =
    reads_past (number_bytes from ++ number_bytes (length t)) _ (4 * i) (4 * suc i) (omega arith) ∙ offset_in (from + length t) ts rest i (omega arith)

length_in : (from : ℕ) (ts : List (List ℕ)) (rest : List ℕ) (i : ℕ) → i < length ts → number_at (pairs_from from ts ++ rest) (2 + 4 * i) ≡ length (get_or ts i [])
length_in from [] rest i h = absurd (omega arith)
length_in from (t ∷ ts) rest zero h = reads_front (length t)
length_in from (t ∷ ts) rest (suc i) h =
    reads_past (number_bytes from ++ number_bytes (length t)) _ (2 + 4 * i) (2 + 4 * suc i) (omega arith) ∙ length_in (from + length t) ts rest i (omega arith)

pub count_back : (ts : List (List ℕ)) → count_of (packed ts) ≡ length ts
count_back ts = reads_front (length ts)

pub offset_back : (ts : List (List ℕ)) (i : ℕ) → i < length ts → offset_of (packed ts) i ≡ start_of (2 + 4 * length ts) ts i
offset_back ts i h = reads_past (number_bytes (length ts)) _ (4 * i) (2 + 4 * i) refl ∙ offset_in _ ts (all_bytes ts) i h

pub length_back : (ts : List (List ℕ)) (i : ℕ) → i < length ts → length_of (packed ts) i ≡ length (get_or ts i [])
length_back ts i h = reads_past (number_bytes (length ts)) _ (2 + 4 * i) (4 + 4 * i) (omega arith) ∙ length_in (2 + 4 * length ts) ts (all_bytes ts) i h

length_pairs : (from : ℕ) (ts : List (List ℕ)) → length (pairs_from from ts) ≡ 4 * length ts
length_pairs from [] = refl
length_pairs from (t ∷ ts) = let more = length_pairs (from + length t) ts in omega arith

pub length_packed : (ts : List (List ℕ)) → length (packed ts) ≡ 2 + 4 * length ts + length (all_bytes ts)
length_packed ts =
    let pairs = length_pairs (2 + 4 * length ts) ts in
    let both = length-append (pairs_from (2 + 4 * length ts) ts) (all_bytes ts) in
    omega arith

pub texts_start : (ts : List (List ℕ)) → drop (2 + 4 * length ts) (packed ts) ≡ all_bytes ts
texts_start ts =
    let pairs = length_pairs (2 + 4 * length ts) ts in
    drop_at (number_bytes (length ts) ++ pairs_from (2 + 4 * length ts) ts) (all_bytes ts) (2 + 4 * length ts) (omega arith)

-- the text i, in a file that has the texts from `from` on
pub text_at : (file : List ℕ) (from : ℕ) (ts : List (List ℕ)) (i : ℕ) → drop from file ≡ all_bytes ts → i < length ts → take (length (get_or ts i [])) (drop (start_of from ts i) file) ≡ get_or ts i []
text_at file from [] i e h = absurd (omega arith)
text_at file from (t ∷ ts) zero e h = ap (take (length t)) e ∙ take_at t (all_bytes ts) _ refl
text_at file from (t ∷ ts) (suc i) e h =
    let next : drop (from + length t) file ≡ all_bytes ts = sym (drop-drop (length t) from file) ∙ ap (drop (length t)) e ∙ drop_at t (all_bytes ts) _ refl in
    text_at file (from + length t) ts i next (omega arith)

pub ends_within : (from : ℕ) (ts : List (List ℕ)) (i : ℕ) → i < length ts → start_of from ts i + length (get_or ts i []) ≤ from + length (all_bytes ts)
ends_within from [] i h = absurd (omega arith)
ends_within from (t ∷ ts) zero h = omega (arith, length-append t (all_bytes ts))
ends_within from (t ∷ ts) (suc i) h = omega (arith, length-append t (all_bytes ts), ends_within (from + length t) ts i (omega arith))

pub follows : (from : ℕ) (ts : List (List ℕ)) (i : ℕ) → suc i < length ts → start_of from ts (suc i) ≡ start_of from ts i + length (get_or ts i [])
follows from [] i h = absurd (omega arith)
follows from (t ∷ []) i h = absurd (omega arith)
follows from (t ∷ (u ∷ ts)) zero h = refl
follows from (t ∷ (u ∷ ts)) (suc i) h = follows (from + length t) (u ∷ ts) i (omega arith)
