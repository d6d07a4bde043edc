-- The queue. The tray's words, head and tail, name nodes; the parcels follow head's node, which carries none. Tail's node is the last or the one before it.
use Rattle.std.specs.Prelude.{ℕ, zero, suc, ◌+◌, ◌*◌, Bool, true, false, cond, length, Some, ◌==◌}
use Rattle.kinds.specs.declared.acts.Notes.{Notes}
use Rattle.kinds.specs.declared.acts.PutAct.{PutAct}
use Rattle.kinds.specs.declared.acts.PutAct.TheVariants.{Read as PutRead, Tidy as PutTidy, Commit as PutCommit}
use Rattle.kinds.specs.declared.acts.TakeAct.{TakeAct}
use Rattle.kinds.specs.declared.acts.TakeAct.TheVariants.{Read as TakeRead, Tidy as TakeTidy, Commit as TakeCommit, Empty}
use Rattle.kinds.specs.Addresses.{first_word_at, second_word_at, next_word_at}
use Rattle.kinds.specs.Plans.{Plan, start}
use Rattle.kinds.specs.Walks.{walk}

-- the addresses of head, of tail and of a node's next word
abbrev pub head_at : ℕ → ℕ
head_at t = first_word_at t

abbrev pub tail_at : ℕ → ℕ
tail_at t = second_word_at t

abbrev pub next_at : ℕ → ℕ
next_at n = next_word_at n

-- A put of node n that has read the tail and there the next word, y. Where y names a node, tail has fallen behind, and is set right first.
abbrev pub put_end : ℕ → ℕ → ℕ → ℕ → ℕ → PutAct
put_end tail_word next_word n tail zero = PutCommit (record { address = next_word; old = 0; new = n })
put_end tail_word next_word n tail (suc y) = PutTidy (record { address = tail_word; old = tail; new = suc y })

-- by the addresses of tail and of that next word, and by the stage
abbrev pub put_acts : ℕ → ℕ → ℕ → ℕ → ℕ → ℕ → PutAct
put_acts tail_word next_word n zero tail y = PutRead tail_word
put_acts tail_word next_word n (suc zero) tail y = PutRead next_word
put_acts tail_word next_word n (suc (suc zero)) tail y = PutRead tail_word
put_acts tail_word next_word n (suc (suc (suc k))) tail y = put_end tail_word next_word n tail y

-- A take that has read the head, the tail and at the head the next word, y, with the parcel x of y's node; `caught` where head was tail.
abbrev pub take_end : ℕ → ℕ → Bool → ℕ → ℕ → ℕ → TakeAct
take_end head_word tail_word caught head zero x = Empty
take_end head_word tail_word true head (suc y) x = TakeTidy (record { address = tail_word; old = head; new = suc y })
take_end head_word tail_word false head (suc y) x = TakeCommit (record { address = head_word; old = head; new = suc y }) x

-- by the addresses of head, of tail and of that next word, and by the stage
abbrev pub take_acts : ℕ → ℕ → ℕ → ℕ → ℕ → ℕ → ℕ → ℕ → TakeAct
take_acts head_word tail_word next_word zero head tail y x = TakeRead head_word
take_acts head_word tail_word next_word (suc zero) head tail y x = TakeRead tail_word
take_acts head_word tail_word next_word (suc (suc zero)) head tail y x = TakeRead next_word
take_acts head_word tail_word next_word (suc (suc (suc zero))) head tail y x = TakeRead head_word
take_acts head_word tail_word next_word (suc (suc (suc (suc k)))) head tail y x = take_end head_word tail_word (head == tail) head y x

-- The notes after the word w was read, of a take with the parcel p of w's node. A second read that finds another word starts over.
abbrev pub put_notes : ℕ → ℕ → ℕ → ℕ → Notes
put_notes zero tail y w = record { stage = 1; one = w; two = 0; three = 0; parcel = 0 }
put_notes (suc zero) tail y w = record { stage = 2; one = tail; two = w; three = 0; parcel = 0 }
put_notes (suc (suc zero)) tail y w = cond (w == tail) (record { stage = 3; one = tail; two = y; three = 0; parcel = 0 }) start
put_notes (suc (suc (suc k))) tail y w = start

abbrev pub take_notes : ℕ → ℕ → ℕ → ℕ → ℕ → ℕ → ℕ → Notes
take_notes zero head tail y x w p = record { stage = 1; one = w; two = 0; three = 0; parcel = 0 }
take_notes (suc zero) head tail y x w p = record { stage = 2; one = head; two = w; three = 0; parcel = 0 }
take_notes (suc (suc zero)) head tail y x w p = record { stage = 3; one = head; two = tail; three = w; parcel = p }
take_notes (suc (suc (suc zero))) head tail y x w p = cond (w == head) (record { stage = 4; one = head; two = tail; three = y; parcel = x }) start
take_notes (suc (suc (suc (suc k)))) head tail y x w p = start

abbrev pub queue_plan : Plan
queue_plan = record {
  takes_node = true;
  first = λ n. n;
  second = λ n. n;
  peeks = false;
  put_act = λ t n m. put_acts (tail_at t) (next_at m.one) n m.stage m.one m.two;
  take_act = λ t m. take_acts (head_at t) (tail_at t) (next_at m.one) m.stage m.one m.two m.three m.parcel;
  put_noted = λ m f. put_notes m.stage m.one m.two f.word;
  take_noted = λ m f. take_notes m.stage m.one m.two m.three m.parcel f.word f.parcel;
  fill = λ m. 0;
  last_swap = λ t n m. Some (record { address = tail_at t; old = m.one; new = n });
  tidied = λ t a. (a == 2 * t + 1);
  most = 10;
  contents = λ t V. walk V.taken V (V.word (64 + V.word (2 * t)));
  rule = record { adds_at = λ x xs. length xs; gives_at = λ xs. 0 };
}
