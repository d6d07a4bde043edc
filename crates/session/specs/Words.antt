-- Why a session ended early, in words, as bytes.
use Rattle.std.specs.Prelude.{ℕ, List, ◌++◌, codes, decimal}
use Rattle.refusals.specs.Numbers.{number_of}
use Rattle.refusals.specs.Texts.{explained}
use Rattle.session.specs.declared.fault.SessionFault.{SessionFault}

abbrev pub words_of : SessionFault → List ℕ
words_of f = codes "the session ended at order " ++ (decimal f.order ++ (codes " with " ++ (decimal (number_of f.cause) ++ (codes ": " ++ explained f.cause))))
