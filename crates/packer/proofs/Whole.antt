-- The lines of a text are its pieces.
use Rattle.std.proofs.Common.{◌≡◌, ℕ, cond, eqb, List, [], ◌∷◌, sym, refl, ap, ◌∙◌, inl, inr, arith}
use Rattle.std.specs.List.{AllByRecursion}
use Rattle.std.proofs.lemmas.Bool.{cases_Bool, eqb-true, eqb-false}
use Rattle.packer.specs.Lines.{onto, lines_of}
use Rattle.packer.specs.Pieces.{with_feeds, ended, Pieces}
use Rattle.packer.proofs.FirstLine.{first_line, feed, other}

-- a byte that is no line feed, before text that has a line
before : (b c : ℕ) (rest : List ℕ) → with_feeds (onto b (lines_of (c ∷ rest))) ≡ b ∷ with_feeds (lines_of (c ∷ rest))
before b c rest = let e = first_line (c ∷ rest) (omega arith) in ap (λ ls. with_feeds (onto b ls)) e ∙ sym (ap (λ ls. b ∷ with_feeds ls) e)

whole : (text : List ℕ) → with_feeds (lines_of text) ≡ ended text
whole [] = refl
whole (b ∷ []) =
    elim (cases_Bool (eqb b 10)) [
      | inl e ↦ ap with_feeds (feed b [] e).0 ∙ ap (λ x. x ∷ []) (sym (eqb-true b 10 e)) ∙ sym (ap (λ t. cond t (b ∷ []) (b ∷ 10 ∷ [])) e)
      | inr e ↦ ap with_feeds (other b [] e).0 ∙ sym (ap (λ t. cond t (b ∷ []) (b ∷ 10 ∷ [])) e)
    ]
whole (b ∷ (c ∷ rest)) =
    elim (cases_Bool (eqb b 10)) [
      | inl e ↦ ap with_feeds (feed b (c ∷ rest) e).0 ∙ (λ j. sym (eqb-true b 10 e) j ∷ whole (c ∷ rest) j)
      | inr e ↦ ap with_feeds (other b (c ∷ rest) e).0 ∙ before b c rest ∙ ap (λ l. b ∷ l) (whole (c ∷ rest))
    ]

abbrev NoFeed : List (List ℕ) → Type 0
NoFeed ls = AllByRecursion (λ line. AllByRecursion (λ b. b ≡ 10 → ⊥) line) ls

onto_none : (b : ℕ) (ls : List (List ℕ)) → (b ≡ 10 → ⊥) → NoFeed ls → NoFeed (onto b ls)
onto_none b [] ne h = ((ne, tt), tt)
onto_none b (l ∷ ls) ne h = ((ne, h.0), h.1)

no_feed : (text : List ℕ) → NoFeed (lines_of text)
no_feed [] = tt
no_feed (b ∷ bs) = elim (cases_Bool (eqb b 10)) [ inl e ↦ rw (feed b bs e).0 (tt, no_feed bs) | inr e ↦ rw (other b bs e).0 (onto_none b (lines_of bs) (eqb-false b 10 e) (no_feed bs)) ]

pub pieces : (text : List ℕ) → Pieces text
pieces text = record { whole = whole text; no_feed = no_feed text }
