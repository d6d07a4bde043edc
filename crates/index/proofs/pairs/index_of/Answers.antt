use Rattle.std.proofs.Common.{◌≡◌, ℕ, ◌+◌, ◌*◌, ◌/◌, ◌<◌, ◌≤◌, List, length, get_or, take, drop, Some, None, Option, MatchOption, ap, ◌∙◌, ⊎_elim, arith}
use native.Mathlib.Nat.{sub-zero}
use Rattle.std.specs.List.{PartBy}
use Rattle.std.specs.Simd.{first_chunks}
use Rattle.std.proofs.lemmas.List.{get_or-take}
use Rattle.index.specs.Index.{count_of, pairs_in}
use Rattle.index.proofs.Index.{pieces}
use Rattle.index.proofs.pairs.index_of.Goals as goal

-- the number in the first two bytes
counted : (file front : List ℕ) → front ≡ take 2 file → get_or front 0 0 + get_or front 1 0 * 256 ≡ count_of file
counted file front e =
    let low : get_or front 0 0 ≡ get_or file 0 0 = ap (λ l. get_or l 0 0) e ∙ get_or-take 2 file 0 0 (omega arith) in
    let high : get_or front 1 0 ≡ get_or file 1 0 = ap (λ l. get_or l 1 0) e ∙ get_or-take 2 file 1 0 (omega arith) in
    omega arith

module _ (file rest : List ℕ) (n : ℕ) (is : n ≡ count_of file) (left : rest ≡ drop 2 file) (long : length rest + 2 ≡ length file)
    (all : List (List ℕ)) (cut : all ≡ first_chunks 4 (length rest / 4) rest) (many : length all ≡ length rest / 4) where
  part : {R : Type 0} (now : R → List (List ℕ)) (r : Option R) → PartBy now all 0 n r
      → MatchOption r (length file < 2 + 4 * count_of file) (λ x. (2 + 4 * count_of file ≤ length file) × (now x ≡ pairs_in file))
  part now None p = ⊎_elim (λ (h : n < 0). absurd (omega arith)) (λ (h : length all < n). omega arith) p.0
  part now (Some x) p =
      let fits : n ≤ length all = p.0.1 in
      (omega arith, p.0.2 ∙ rw sub-zero ((λ j. take (is j) (cut j)) ∙ ap (λ l. take (count_of file) (first_chunks 4 (length rest / 4) l)) left ∙ pieces file (length rest / 4) (omega arith)))

pub returns : goal.returns
returns c =
    let f = c.in_ok-count.ensures.cases in
    part c.args.bytes.now c.in_ok-count.rest.now _ (c.from.ensures ∙ c.from_le_bytes.ensures ∙ counted c.args.bytes.now c.in_ok-count.count.now f.0) f.1 f.2
    c.as_chunks.result.0.now c.as_chunks.ensures.front c.as_chunks.ensures.front_len (λ x. x.now) _ c.get.ensures.lookup
