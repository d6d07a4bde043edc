-- The order texts of an opened session file.
use Rattle.std.specs.Prelude.{ℕ, List, Ok, Err, Result}
use Rattle.refusals.specs.declared.refusal.Refusal.{Refusal}
use Rattle.index.specs.declared.file.SessionFile.{SessionFile}
use Rattle.index.specs.Texts.{texts_in}

-- the texts of an opened file; since its index was checked, none is cut
unfoldable pub texts_of : SessionFile → List (List ℕ)
texts_of f = texts_in f.bytes.now

abbrev pub said : Result SessionFile Refusal → Result (List (List ℕ)) Refusal
said (Ok f) = Ok (texts_of f)
said (Err e) = Err e
