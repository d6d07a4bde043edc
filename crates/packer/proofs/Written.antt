-- How much the lines of a text hold, and how long their file is.
use Rattle.std.proofs.Common.{◌≡◌, ℕ, ◌+◌, ◌*◌, ◌≤◌, cond, eqb, List, [], ◌∷◌, length, ap, ◌∙◌, inl, inr, arith}
use Rattle.std.proofs.lemmas.Bool.{cases_Bool}
use Rattle.packer.specs.Lines.{onto, lines_of}
use Rattle.packer.specs.Packed.{all_bytes, packed}
use Rattle.packer.proofs.FirstLine.{feed, other}
use Rattle.packer.proofs.Pairs.{length_packed}

-- the lines hold no more than the text, and there are no more of them than it has bytes
onto_few : (b : ℕ) (ls : List (List ℕ)) → (length (onto b ls) ≤ 1 + length ls) × (length (all_bytes (onto b ls)) ≡ 1 + length (all_bytes ls))
onto_few b [] = (omega arith, omega arith)
onto_few b (l ∷ ls) = (omega arith, omega arith)

pub few : (text : List ℕ) → (length (lines_of text) ≤ length text) × (length (all_bytes (lines_of text)) ≤ length text)
few [] = (omega arith, omega arith)
few (b ∷ bs) =
    let more = few bs in
    elim (cases_Bool (eqb b 10)) [
      | inl e ↦ rw (feed b bs e).0 (omega arith, omega arith)
      | inr e ↦ rw (other b bs e).0 (let w = onto_few b (lines_of bs) in (omega arith, omega arith))
    ]

-- a file is longer than the text of its lines
abbrev weight : List (List ℕ) → ℕ
weight ls = 4 * length ls + length (all_bytes ls)

onto_weight : (b : ℕ) (ls : List (List ℕ)) → 1 + weight ls ≤ weight (onto b ls)
onto_weight b [] = omega arith
onto_weight b (l ∷ ls) = omega arith

text_weight : (text : List ℕ) → length text ≤ weight (lines_of text)
text_weight [] = omega arith
text_weight (b ∷ bs) =
    let more = text_weight bs in
    elim (cases_Bool (eqb b 10)) [
      | inl e ↦ let w : weight (lines_of (b ∷ bs)) ≡ 4 + weight (lines_of bs) = ap (λ t. weight (cond t ([] ∷ lines_of bs) (onto b (lines_of bs)))) e ∙ (let r : weight ([] ∷ lines_of bs) ≡ 4 + weight (lines_of bs) = omega arith in r) in omega arith
      | inr e ↦ let w : weight (lines_of (b ∷ bs)) ≡ weight (onto b (lines_of bs)) = ap (λ t. weight (cond t ([] ∷ lines_of bs) (onto b (lines_of bs)))) e in omega (arith, onto_weight b (lines_of bs))
    ]

pub longer : (text : List ℕ) → length text ≤ length (packed (lines_of text))
longer text = omega (arith, text_weight text, length_packed (lines_of text))
