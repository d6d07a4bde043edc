-- The addresses of a tray's two words and of a node's next word; of a tray or a node that is not there, perhaps the largest number.
use Rattle.std.specs.Prelude.{ℕ, ◌+◌, ◌*◌, min}

abbrev pub first_word_at : ℕ → ℕ
first_word_at t = min (2 * t) 4294967295

abbrev pub second_word_at : ℕ → ℕ
second_word_at t = min (2 * t + 1) 4294967295

abbrev pub next_word_at : ℕ → ℕ
next_word_at n = min (64 + n) 4294967295
