-- The swaps of one word. A swap compares numbers, and both its words and the word that it finds have to be valid.
use Rattle.std.specs.Prelude.{ℕ, cond, Ok, Result, ◌==◌}
use Rattle.refusals.specs.declared.refusal.Refusal.{Refusal}
use Rattle.words.specs.declared.word.Word.{Word}
use Rattle.memory.specs.Seen.{Seen}
use Rattle.memory.specs.Reads.{on_ok}
use Rattle.memory.specs.Meaning.{plain}
use Rattle.swap_access.specs.declared.effect.Effect.{Effect}
use Rattle.swap_access.specs.declared.position.Next.{Next}
use Rattle.swap_access.specs.Effects.{no_write, word_write}
use Rattle.swap_access.specs.Found.{found_at, number_of}

-- address: old → new
unfoldable pub swap_word : Seen → ℕ → ℕ → ℕ → Next → Next → Result Effect Refusal
swap_word m a old new done failed = on_ok (found_at m a) λ found. Ok (cond (found == old) (word_write a new done) (no_write failed))

-- address: a plain word → a descriptor or a mark
unfoldable pub install : Seen → ℕ → ℕ → Word → Next → Next → Result Effect Refusal
install m a old new done failed = on_ok (plain m old) λ o. on_ok (number_of new) λ n. swap_word m a o n done failed

-- address: a descriptor or a mark → a plain word
unfoldable pub remove : Seen → ℕ → Word → ℕ → Next → Result Effect Refusal
remove m a old new next = on_ok (number_of old) λ o. on_ok (plain m new) λ n. swap_word m a o n next next
