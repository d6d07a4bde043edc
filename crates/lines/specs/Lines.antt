-- A printed line: numbers in decimal with one space between, and a line feed at the end.
use Rattle.std.specs.Prelude.{ℕ, List, [], ◌∷◌, ◌++◌, decimal}
use Rattle.std.specs.List.{flat_map}
use Rattle.lines.specs.declared.line.Line.{Line}

-- a number after the first one, with the space before it (as in orders, which reads; neither crate uses the other)
abbrev pub word_of : ℕ → List ℕ
word_of n = 32 ∷ decimal n

abbrev pub line_of : ℕ → List ℕ → List ℕ
line_of first rest = decimal first ++ (flat_map word_of rest ++ 10 ∷ [])

abbrev pub bytes_of : Line → List ℕ
bytes_of line = line_of line.first line.rest.now
