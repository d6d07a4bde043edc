-- The number of each look.
use Rattle.std.specs.Prelude.{ℕ}
use Rattle.records.specs.declared.scanner.Look.{Look}
use Rattle.records.specs.declared.scanner.Look.TheVariants.{None, InWork, WithParcel, Empty, Worn}

abbrev pub look_number : Look → ℕ
look_number None = 0
look_number InWork = 1
look_number (WithParcel p) = 2
look_number Empty = 3
look_number Worn = 4
