-- Each fault in words, as bytes.
use Rattle.std.specs.Prelude.{ℕ, List, codes}
use Rattle.packer.specs.declared.fault.PackFault.{PackFault}
use Rattle.packer.specs.declared.fault.PackFault.TheVariants.{TooLong, Memory}

abbrev pub words_of : PackFault → List ℕ
words_of TooLong = codes "the session file would be longer than 16,384 bytes"
words_of Memory = codes "there is no memory for the session file"
