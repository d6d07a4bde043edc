-- Whether lines are refused for their length.
use Rattle.std.specs.Prelude.{Bool, true, false, Ok, Err, Result}
use Rattle.packer.specs.declared.fault.PackFault.{PackFault}
use Rattle.packer.specs.declared.fault.PackFault.TheVariants.{TooLong, Memory}

abbrev pub is_length : PackFault → Bool
is_length TooLong = true
is_length Memory = false

abbrev pub is_too_long : {T : Type 0} → Result T PackFault → Bool
is_too_long (Ok v) = false
is_too_long (Err e) = is_length e
