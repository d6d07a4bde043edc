-- Addresses of words. Tray t has addresses 2t and 2t + 1; address 64 + n is the next word of node n, and places begin at 1.
use Rattle.std.specs.Prelude.{ℕ, ◌-◌, cond, ◌&&◌, Some, None, Option, nat_le}
use Rattle.memory.specs.declared.address.Address.{Address}
use Rattle.memory.specs.declared.address.Address.TheVariants.{TrayWord, NextWord}

abbrev pub addressed : ℕ → Option Address
addressed a =
    cond (nat_le a 63) (Some (TrayWord a))
    (cond (nat_le 65 a && nat_le a 4159) (Some (NextWord (a - 64)))
    None)
