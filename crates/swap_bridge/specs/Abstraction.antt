-- The state of the machine that a system is in.
use Rattle.std.specs.Prelude.{ℕ, Bool, cond, Some, None, Ok, Err, Option, Result}
use Rattle.refusals.specs.declared.refusal.Refusal.{Refusal}
use Rattle.words.specs.declared.word.Word.{Word as CodeWord}
use Rattle.words.specs.declared.word.Word.TheVariants.{Nil, Node, Descriptor, Mark}
use Rattle.words.specs.Words.{told}
use Rattle.records.specs.declared.entries.Descriptor.{Descriptor as Record}
use Rattle.records.specs.Tables.{zero_descriptor}
use Rattle.memory.specs.Seen.{Seen}
use Rattle.memory.specs.Reads.{descriptor_at, word_at}
use Rattle.memory.specs.declared.meaning.Outcome.{Outcome as CodeOutcome}
use Rattle.memory.specs.declared.meaning.Outcome.TheVariants.{Undecided, Success, SecondFailed, DecidedBy}
use Rattle.memory.specs.Meaning.{outcome_of}
use Rattle.swap_access.specs.declared.position.Met.{Met}
use Rattle.swap_access.specs.declared.position.Met.TheVariants.{Descriptor as by_descriptor, Mark as by_mark}
use Rattle.swap_access.specs.declared.position.Position.{Position as CodePosition}
use Rattle.swap_access.specs.declared.position.Position.TheVariants.{Publish, ReadResult, Clean, PlaceMark, ReRead, TryToFail, GiveBack, Decide, FinishFirst, FinishSecond, WriteSuccess, Withdraw}
use Rattle.swap_machine.specs.Machine.{Word, plain, descriptor, mark, Outcome, fresh, undecided, failed, won, success, Fields, Owner, Memory, Via, via_descriptor, via_mark, State}
use Rattle.swap_machine.specs.Machine.{Position, idle, at_publish, at_read_result, at_clean, at_place_mark, at_re_read, at_try_fail, at_give_back, at_decide, at_finish_first, at_finish_second, at_write_success, at_withdraw}
use Rattle.swap_bridge.specs.Systems.{Standing, resting, working, System}

-- a word; what is no word counts as nil
abbrev pub meaning : Option CodeWord → Word
meaning None = plain 0
meaning (Some Nil) = plain 0
meaning (Some (Node n)) = plain n
meaning (Some (Descriptor d)) = descriptor d
meaning (Some (Mark s d)) = mark d s

abbrev pub word_read : Result ℕ Refusal → Word
word_read (Ok w) = meaning (told w)
word_read (Err e) = plain 0

abbrev pub word_of : Seen → ℕ → Word
word_of m a = word_read (word_at m a)

-- the record of a descriptor; a place that is not taken counts as zero
abbrev pub or_zero : Result Record Refusal → Record
or_zero (Ok x) = x
or_zero (Err e) = zero_descriptor

abbrev pub record_at : Seen → ℕ → Record
record_at m d = or_zero (descriptor_at m d)

abbrev pub outcome : Bool → Option CodeOutcome → Outcome
outcome published None = fresh
outcome published (Some Undecided) = cond published undecided fresh
outcome published (Some Success) = success
outcome published (Some SecondFailed) = failed
outcome published (Some (DecidedBy s)) = won s

abbrev pub result_at : Seen → (ℕ → Bool) → ℕ → Outcome
result_at m published d = outcome (published d) (outcome_of d (record_at m d).result)

abbrev pub fields_of : Record → Fields
fields_of x = record { p1 = x.first.address; o1 = x.first.old; n1 = x.first.new; p2 = x.second.address; o2 = x.second.old; n2 = x.second.new }

abbrev pub memory_of : Seen → (ℕ → Bool) → (ℕ → Owner) → Memory
memory_of m published owner = record { word = word_of m; result = result_at m published; fields = λ d. fields_of (record_at m d); owner = owner }

abbrev pub via_of : Met → Via
via_of by_descriptor = via_descriptor
via_of (by_mark s) = via_mark s

abbrev pub position_of : Bool → CodePosition → Position
position_of own (Publish d) = at_publish d
position_of own (ReadResult d met) = at_read_result d (via_of met)
position_of own (Clean d met) = at_clean d (via_of met)
position_of own (PlaceMark d) = at_place_mark d own
position_of own (ReRead d) = at_re_read d own
position_of own (TryToFail d) = at_try_fail d own
position_of own (GiveBack d) = at_give_back d own
position_of own (Decide d t placed) = at_decide d own t placed
position_of own (FinishFirst d t) = at_finish_first d own t
position_of own (FinishSecond d t) = at_finish_second d own t
position_of own (WriteSuccess d t) = at_write_success d own t
position_of own (Withdraw d ok) = at_withdraw d own ok

abbrev pub place_of : Standing → Position
place_of resting = idle
place_of (working own p) = position_of own p

abbrev pub abstracted : System → State
abstracted σ = record { memory = memory_of σ.tables σ.published σ.owner; at = λ s. place_of (σ.standing s) }
