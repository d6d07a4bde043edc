-- The index at the front of a session file: a count, and for each order text its offset and its length.
use Rattle.std.specs.Prelude.{ℕ, zero, suc, ◌+◌, ◌*◌, Bool, true, ◌&&◌, List, length, map, take, drop, nat_le, slice_index}
use Rattle.std.specs.List.{range_with_len}

-- the number in the two bytes at `at`, the lower byte first
abbrev pub number_at : List ℕ → ℕ → ℕ
number_at file at = slice_index file at + 256 * slice_index file (at + 1)

abbrev pub count_of : List ℕ → ℕ
count_of file = number_at file 0

abbrev pub offset_of : List ℕ → ℕ → ℕ
offset_of file i = number_at file (2 + 4 * i)

abbrev pub length_of : List ℕ → ℕ → ℕ
length_of file i = number_at file (4 + 4 * i)

abbrev pub end_of : List ℕ → ℕ → ℕ
end_of file i = offset_of file i + length_of file i

-- the four bytes of the index that say where text i lies
abbrev pub pair_of : List ℕ → ℕ → List ℕ
pair_of file i = take 4 (drop (2 + 4 * i) file)

-- these bytes for each text
abbrev pub pairs_in : List ℕ → List (List ℕ)
pairs_in file = map (pair_of file) (range_with_len 0 (count_of file))

-- the end of the text before text i
abbrev pub end_before : List ℕ → ℕ → ℕ
end_before file zero = 0
end_before file (suc i) = end_of file i

-- text i begins no earlier than the one before it ends, and lies in the file
abbrev pub lies : List ℕ → ℕ → Bool
lies file i = nat_le (end_before file i) (offset_of file i) && nat_le (end_of file i) (length file)

-- so do the first n texts
abbrev pub all_lie : List ℕ → ℕ → Bool
all_lie file zero = true
all_lie file (suc n) = lies file n && all_lie file n

-- the whole check: the file is no longer than 16,384 bytes, the index lies in it, and so do the texts, one after the other
abbrev pub sound : List ℕ → Bool
sound file =
    (nat_le 2 (length file) && nat_le (length file) 16384) && (nat_le (2 + 4 * count_of file) (length file) && all_lie file (count_of file))
