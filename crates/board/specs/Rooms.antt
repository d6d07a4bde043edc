-- The places of one table: how many there are, and how many of them are taken.
use Rattle.std.specs.Prelude.{ℕ, ◌+◌, cond, ◌&&◌, Ok, Err, Result, nat_le}
use Rattle.refusals.specs.declared.refusal.Refusal.{Refusal}
use Rattle.refusals.specs.declared.refusal.Refusal.TheVariants.{TableLength}
use Rattle.places.specs.Places.{has_place, taken_after}

pub record Counts : Type 0 where
  pub room : ℕ
  pub taken : ℕ

-- the counts of a table of which no place is taken
abbrev pub untaken : ℕ → Counts
untaken room = record { room = room; taken = 0 }

-- those of a table of this length: words name 1 to 4,095 places
abbrev pub room_of : ℕ → Result Counts Refusal
room_of length = cond (nat_le 1 length && nat_le length 4095) (Ok (untaken length)) (Err TableLength)

-- the counts after the next place was taken, if one was left
abbrev pub with_place : Counts → Counts
with_place c = record c { taken = taken_after c.room c.taken }

-- the next place, or this refusal where none is left
abbrev pub takes : Counts → Refusal → Result ℕ Refusal
takes c none_left = cond (has_place c.room c.taken) (Ok (c.taken + 1)) (Err none_left)
