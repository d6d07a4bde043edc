-- What stands at a place of a table.
use Rattle.std.specs.Prelude.{ℕ, ◌-◌, Bool, cond, ◌&&◌, List, length, None, Option, nat_le, slice_get}

-- whether a place is taken, in a table of `room` places of which the first `taken` are
abbrev pub is_taken : ℕ → ℕ → ℕ → Bool
is_taken room taken place = nat_le 1 place && (nat_le place taken && nat_le place room)

-- the entry at a place: none where the place is not taken
abbrev pub entry_at : {T : Type 0} → List T → ℕ → ℕ → Option T
entry_at table taken place = cond (is_taken (length table) taken place) (slice_get table (place - 1)) None
