-- The words of the shared tables and their numbers.
use Rattle.std.specs.Prelude.{ℕ, ◌+◌, ◌-◌, ◌*◌, ◌/◌, ◌%◌, ◌≤◌, Bool, cond, not, ◌&&◌, Some, None, Option, ◌==◌, nat_le}
use Rattle.words.specs.declared.word.Word.{Word}
use Rattle.words.specs.declared.word.Word.TheVariants.{Nil, Node, Descriptor, Mark}

-- a place that a word can name, and a scanner that a mark can name
abbrev pub is_place : ℕ → Bool
is_place n = nat_le 1 n && nat_le n 4095

abbrev pub is_scanner : ℕ → Bool
is_scanner s = nat_le s 15

-- the number of a word: 0 is nil and 1 to 4,095 is that node; descriptor d is 65,536 + d; the mark of descriptor d by scanner s is 131,072 + 4,096 × s + d
abbrev pub coded : Word → Option ℕ
coded Nil = Some 0
coded (Node n) = cond (is_place n) (Some n) None
coded (Descriptor d) = cond (is_place d) (Some (65536 + d)) None
coded (Mark s d) = cond (is_scanner s && is_place d) (Some (131072 + 4096 * s + d)) None

-- what a number says as a word
abbrev pub told : ℕ → Option Word
told n =
    cond (n == 0) (Some Nil)
    (cond (nat_le n 4095) (Some (Node n))
    (cond (nat_le 65537 n && nat_le n 69631) (Some (Descriptor (n - 65536)))
    (cond (nat_le 131072 n && (nat_le n 196607 && not (n % 4096 == 0))) (Some (Mark ((n - 131072) / 4096) (n % 4096)))
    None)))

-- a word that has a number: its places and its scanner are such as a word can name
abbrev pub Proper : Word → Type 0
Proper Nil = Unit {0}
Proper (Node n) = (1 ≤ n) × (n ≤ 4095)
Proper (Descriptor d) = (1 ≤ d) × (d ≤ 4095)
Proper (Mark s d) = (s ≤ 15) × (1 ≤ d) × (d ≤ 4095)
