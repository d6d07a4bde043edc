-- What a word stands for.
use Rattle.std.specs.Prelude.{◌≡◌, ℕ, ◌≤◌, cond, ◌⊎◌, Some, None, Ok, Err, Option, Result, ◌==◌}
use Rattle.refusals.specs.declared.refusal.Refusal.{Refusal}
use Rattle.refusals.specs.declared.refusal.Refusal.TheVariants.{Torn}
use Rattle.words.specs.declared.word.Word.{Word}
use Rattle.words.specs.declared.word.Word.TheVariants.{Nil, Node, Descriptor, Mark}
use Rattle.words.specs.Words.{told}
use Rattle.records.specs.declared.entries.Descriptor.{Descriptor as Record}
use Rattle.memory.specs.declared.meaning.Outcome.{Outcome}
use Rattle.memory.specs.declared.meaning.Outcome.TheVariants.{Undecided, Success, SecondFailed, DecidedBy}
use Rattle.memory.specs.Seen.{Seen}
use Rattle.memory.specs.Reads.{on_ok, node_at, descriptor_at}

-- what a result of descriptor d says: 1 undecided, 2 success, 3 second failed, or one of d's marks
abbrev pub own_mark : ℕ → Option Word → Option Outcome
own_mark d None = None
own_mark d (Some Nil) = None
own_mark d (Some (Node n)) = None
own_mark d (Some (Descriptor e)) = None
own_mark d (Some (Mark s e)) = cond (e == d) (Some (DecidedBy s)) None

abbrev pub outcome_of : ℕ → ℕ → Option Outcome
outcome_of d r =
    cond (r == 1) (Some Undecided)
    (cond (r == 2) (Some Success)
    (cond (r == 3) (Some SecondFailed)
    (own_mark d (told r))))

-- a descriptor stands for its new word once it is decided, else for its old one
abbrev pub first_word : Record → Option Outcome → Result ℕ Refusal
first_word r None = Err Torn
first_word r (Some Undecided) = Ok r.first.old
first_word r (Some Success) = Ok r.first.new
first_word r (Some SecondFailed) = Ok r.first.old
first_word r (Some (DecidedBy s)) = Ok r.first.new

-- a mark stands for the new word while its descriptor's result is that very mark, else for the old one
abbrev pub second_word : ℕ → Record → Option Outcome → Result ℕ Refusal
second_word s r None = Err Torn
second_word s r (Some Undecided) = Ok r.second.old
second_word s r (Some Success) = Ok r.second.old
second_word s r (Some SecondFailed) = Ok r.second.old
second_word s r (Some (DecidedBy winner)) = cond (winner == s) (Ok r.second.new) (Ok r.second.old)

abbrev pub meant : Seen → ℕ → Option Word → Result ℕ Refusal
meant m w None = Err Torn
meant m w (Some Nil) = Ok w
meant m w (Some (Node n)) = Ok w
meant m w (Some (Descriptor d)) = on_ok (descriptor_at m d) (λ r. first_word r (outcome_of d r.result))
meant m w (Some (Mark s d)) = on_ok (descriptor_at m d) (λ r. second_word s r (outcome_of d r.result))

-- a word that is nil or a taken node
abbrev pub Plain : Seen → ℕ → Type 0
Plain m w = (w ≡ 0) ⊎ ((1 ≤ w) × (w ≤ m.nodes_taken))

abbrev pub plain : Seen → ℕ → Result ℕ Refusal
plain m w = cond (w == 0) (Ok 0) (on_ok (node_at m w) (λ _. Ok w))

-- what the word stands for, which has to be nil or a taken node
abbrev pub stands_for : Seen → ℕ → Result ℕ Refusal
stands_for m w = on_ok (meant m w (told w)) (plain m)
