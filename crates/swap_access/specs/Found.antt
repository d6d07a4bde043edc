-- What an access finds. What has no valid form, or names a place not taken, is torn.
use Rattle.std.specs.Prelude.{ℕ, Some, None, Ok, Err, Option, Result}
use Rattle.refusals.specs.declared.refusal.Refusal.{Refusal}
use Rattle.refusals.specs.declared.refusal.Refusal.TheVariants.{Torn}
use Rattle.words.specs.declared.word.Word.{Word}
use Rattle.words.specs.declared.word.Word.TheVariants.{Nil, Node, Descriptor, Mark}
use Rattle.words.specs.Words.{told, coded}
use Rattle.memory.specs.declared.meaning.Outcome.{Outcome}
use Rattle.memory.specs.Seen.{Seen}
use Rattle.memory.specs.Reads.{on_ok, node_at, descriptor_at, word_at}
use Rattle.memory.specs.Meaning.{outcome_of}

abbrev pub or_torn : {A : Type 0} → Option A → Result A Refusal
or_torn (Some a) = Ok a
or_torn None = Err Torn

-- the number of a word
abbrev pub number_of : Word → Result ℕ Refusal
number_of w = or_torn (coded w)

-- a number that was found, where it is a word and its place is taken
abbrev pub known : Seen → ℕ → Option Word → Result ℕ Refusal
known m w None = Err Torn
known m w (Some Nil) = Ok w
known m w (Some (Node n)) = on_ok (node_at m n) λ _. Ok w
known m w (Some (Descriptor d)) = on_ok (descriptor_at m d) λ _. Ok w
known m w (Some (Mark s d)) = on_ok (descriptor_at m d) λ _. Ok w

-- the number of the word at an address
unfoldable pub found_at : Seen → ℕ → Result ℕ Refusal
found_at m a = on_ok (word_at m a) λ w. known m w (told w)

-- what the result of a descriptor says
unfoldable pub outcome_at : Seen → ℕ → Result Outcome Refusal
outcome_at m d = on_ok (descriptor_at m d) λ x. or_torn (outcome_of d x.result)
