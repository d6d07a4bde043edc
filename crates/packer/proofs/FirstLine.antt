-- The first line of a text.
use Rattle.std.proofs.Common.{◌≡◌, ℕ, suc, ◌+◌, ◌<◌, true, false, cond, not, eqb, ltb, position, List, [], ◌∷◌, length, take, drop, Some, None, Option, unwrap_or, sym, refl, ap, ◌∙◌, inl, inr, ⊎_elim, add-one, one-add, arith}
use Rattle.std.specs.List.{PartBy}
use Rattle.std.proofs.lemmas.List.{drop_all, drop-drop, take_rest}
use Rattle.std.proofs.lemmas.List.Sums.{prefix_len-le-length}
use Rattle.std.proofs.lemmas.Bool.{cases_Bool, ltb-false, cond-true, cond-false}
use Rattle.std.specs.List.{prefix_len}
use Rattle.packer.specs.Lines.{onto, lines_of}

-- how many bytes stand before the first line feed
abbrev line_end : List ℕ → ℕ
line_end text = prefix_len (λ b. not (eqb b 10)) text

-- a text that begins with a line feed, and one that does not
pub feed : (b : ℕ) (bs : List ℕ) → eqb b 10 ≡ true → (lines_of (b ∷ bs) ≡ [] ∷ lines_of bs) × (line_end (b ∷ bs) ≡ 0)
feed b bs e = (ap (λ t. cond t ([] ∷ lines_of bs) (onto b (lines_of bs))) e, ap (λ t. cond (not t) (1 + line_end bs) 0) e)

pub other : (b : ℕ) (bs : List ℕ) → eqb b 10 ≡ false → (lines_of (b ∷ bs) ≡ onto b (lines_of bs)) × (line_end (b ∷ bs) ≡ suc (line_end bs))
other b bs e = (ap (λ t. cond t ([] ∷ lines_of bs) (onto b (lines_of bs))) e, ap (λ t. cond (not t) (1 + line_end bs) 0) e ∙ one-add (line_end bs))

-- the line that ends at `end`, and the lines after it
abbrev cut : List ℕ → ℕ → List (List ℕ)
cut text end = take end text ∷ lines_of (drop (suc end) text)

-- a byte before the first line, where the other bytes are cut as they should be
byte_before : (b : ℕ) (bs : List ℕ) → onto b (lines_of bs) ≡ cut (b ∷ bs) (suc (line_end bs)) → lines_of (b ∷ bs) ≡ cut (b ∷ bs) (line_end (b ∷ bs))
byte_before b bs more =
    elim (cases_Bool (eqb b 10)) [ inl e ↦ (feed b bs e).0 ∙ sym (ap (cut (b ∷ bs)) (feed b bs e).1) | inr e ↦ (other b bs e).0 ∙ more ∙ sym (ap (cut (b ∷ bs)) (other b bs e).1) ]

pub first_line : (text : List ℕ) → 0 < length text → lines_of text ≡ cut text (line_end text)
first_line [] h = absurd (omega arith)
first_line (b ∷ []) h = byte_before b [] refl
first_line (b ∷ (a ∷ rest)) h = byte_before b (a ∷ rest) (ap (onto b) (first_line (a ∷ rest) (omega arith)))

-- the first line feed, or the end
ended : (text : List ℕ) → unwrap_or (position (λ b. eqb b 10) text) (length text) ≡ line_end text
ended text =
    let at : ℕ = line_end text in
    elim (cases_Bool (ltb at (length text))) [
      | inl e ↦ ap (λ r. unwrap_or r (length text)) (cond-true _ (Some at) None e)
      | inr e ↦ ap (λ r. unwrap_or r (length text)) (cond-false _ (Some at) None e) ∙ (let most = prefix_len-le-length (λ b. not (eqb b 10)) text in let least = ltb-false _ _ e in omega arith)
    ]

-- what follows the line feed, or nothing
pub after_feed : {R : Type 0} (now : R → List ℕ) (r : Option R) (none : R) → now none ≡ [] → (after : List ℕ) → PartBy now after 1 (length after) r → now (unwrap_or r none) ≡ drop 1 after
after_feed now None none e after p = ⊎_elim (λ (h : length after < 1). e ∙ sym (drop_all 1 after (omega arith))) (λ (h : length after < length after). absurd (omega arith)) p.0
after_feed now (Some x) none e after p = p.0.2 ∙ take_rest after 1

-- a text that is cut at its line's end
pub cut_there : (text : List ℕ) → 0 < length text → (found : Option ℕ) → found ≡ position (λ b. eqb b 10) text → (end : ℕ) → end ≡ unwrap_or found (length text) → (line after rest : List ℕ) → line ≡ take end text → after ≡ drop end text → rest ≡ drop 1 after
    → lines_of text ≡ line ∷ lines_of rest
cut_there text h found f end u line after rest l a r =
    let e : end ≡ line_end text = u ∙ ap (λ o. unwrap_or o (length text)) f ∙ ended text in
    let left : drop (suc (line_end text)) text ≡ rest = sym (r ∙ ap (drop 1) (a ∙ ap (λ n. drop n text) e) ∙ drop-drop 1 (line_end text) text ∙ ap (λ n. drop n text) (add-one (line_end text))) in
    first_line text h ∙ (λ j. (ap (λ n. take n text) (sym e) ∙ sym l) j ∷ lines_of (left j))
