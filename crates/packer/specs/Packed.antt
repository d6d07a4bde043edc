-- A session file made of texts: how many there are, where each lies, and then the texts one after the other.
use Rattle.std.specs.Prelude.{ℕ, ◌+◌, ◌*◌, ◌/◌, ◌%◌, List, [], ◌∷◌, ◌++◌, length}

-- a number as two bytes, the lower one first
abbrev pub number_bytes : ℕ → List ℕ
number_bytes n = n % 256 ∷ n / 256 ∷ []

-- the offset and the length of each text, where the first lies at `from`
abbrev pub pairs_from : ℕ → List (List ℕ) → List ℕ
pairs_from from [] = []
pairs_from from (t ∷ ts) = number_bytes from ++ (number_bytes (length t) ++ pairs_from (from + length t) ts)

abbrev pub all_bytes : List (List ℕ) → List ℕ
all_bytes [] = []
all_bytes (t ∷ ts) = t ++ all_bytes ts

abbrev pub packed : List (List ℕ) → List ℕ
packed ts = number_bytes (length ts) ++ (pairs_from (2 + 4 * length ts) ts ++ all_bytes ts)
