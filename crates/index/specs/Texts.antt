-- What a session file says: its order texts.
use Rattle.std.specs.Prelude.{ℕ, cond, List, map, take, drop, Ok, Err, Result}
use Rattle.std.specs.List.{range_with_len}
use Rattle.refusals.specs.declared.refusal.Refusal.{Refusal}
use Rattle.refusals.specs.declared.refusal.Refusal.TheVariants.{BadIndex}
use Rattle.index.specs.Index.{count_of, offset_of, length_of, sound}

abbrev pub text_of : List ℕ → ℕ → List ℕ
text_of file i = take (length_of file i) (drop (offset_of file i) file)

-- the texts that the index names, in its order
abbrev pub texts_in : List ℕ → List (List ℕ)
texts_in file = map (text_of file) (range_with_len 0 (count_of file))

unfoldable pub texts : List ℕ → Result (List (List ℕ)) Refusal
texts file = cond (sound file) (Ok (texts_in file)) (Err BadIndex)
