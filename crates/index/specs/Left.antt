-- The texts that an iterator over a session file has left.
use Rattle.std.specs.Prelude.{ℕ, List, map, take, drop}
use Rattle.index.specs.declared.texts.Texts.{Texts}
use Rattle.index.specs.Index.{number_at}

-- the text that a pair of the index names
abbrev pub text_by : List ℕ → List ℕ → List ℕ
text_by file pair = take (number_at pair 2) (drop (number_at pair 0) file)

abbrev pub texts_left : Texts → List (List ℕ)
texts_left t = map (text_by t.bytes.now) t.index.now
