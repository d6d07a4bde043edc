-- The stack: its parcels run from the tray's first word along next words, and the parcel put in last is the first that is taken.
use Rattle.std.specs.Prelude.{ℕ, zero, suc, ◌*◌, true, false, None}
use Rattle.kinds.specs.declared.acts.PutAct.{PutAct}
use Rattle.kinds.specs.declared.acts.PutAct.TheVariants.{Read as PutRead, Commit as PutCommit}
use Rattle.kinds.specs.declared.acts.TakeAct.{TakeAct}
use Rattle.kinds.specs.declared.acts.TakeAct.TheVariants.{Read as TakeRead, Commit as TakeCommit, Empty}
use Rattle.kinds.specs.Addresses.{first_word_at}
use Rattle.kinds.specs.Plans.{Plan}
use Rattle.kinds.specs.Walks.{walk}

-- the address of the word that leads to the first node
abbrev pub top_at : ℕ → ℕ
top_at t = first_word_at t

-- A put reads that word, lets its node lead on to what it found, and then swaps its node in: by its stage and what it found.
abbrev pub put_step : ℕ → ℕ → ℕ → ℕ → PutAct
put_step t node zero top = PutRead (top_at t)
put_step t node (suc k) top = PutCommit (record { address = top_at t; old = top; new = node })

-- A take that has read the word finishes where it found nil, else it swaps the node out: its next word comes to the front.
abbrev pub take_found : ℕ → ℕ → ℕ → ℕ → TakeAct
take_found t zero next parcel = Empty
take_found t (suc n) next parcel = TakeCommit (record { address = top_at t; old = suc n; new = next }) parcel

abbrev pub take_step : ℕ → ℕ → ℕ → ℕ → ℕ → TakeAct
take_step t zero top next parcel = TakeRead (top_at t)
take_step t (suc k) top next parcel = take_found t top next parcel

abbrev pub stack_plan : Plan
stack_plan = record {
  takes_node = false;
  first = λ n. 0;
  second = λ n. 0;
  peeks = true;
  put_act = λ t n m. put_step t n m.stage m.one;
  take_act = λ t m. take_step t m.stage m.one m.two m.parcel;
  put_noted = λ m f. record { stage = 1; one = f.word; two = 0; three = 0; parcel = 0 };
  take_noted = λ m f. record { stage = 1; one = f.word; two = f.next; three = 0; parcel = f.parcel };
  fill = λ m. m.one;
  last_swap = λ t n m. None;
  tidied = λ t a. false;
  most = 2;
  contents = λ t V. walk V.taken V (V.word (2 * t));
  rule = record { adds_at = λ x xs. 0; gives_at = λ xs. 0 };
}
