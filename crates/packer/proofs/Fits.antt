-- What packing answers, by the size of the file.
use Rattle.std.proofs.Common.{◌≡◌, ℕ, ◌+◌, ◌*◌, ◌<◌, ◌≤◌, true, ltb, List, length, IfOk, Ok, Err, Result, sym, ap, ◌∙◌, arith, MatchResult}
use Rattle.std.proofs.lemmas.Bool.{lt-ltb, le-ltb}
use Rattle.index.specs.Texts.{texts}
use Rattle.packer.specs.declared.fault.PackFault.{PackFault}
use Rattle.packer.specs.declared.fault.PackFault.TheVariants.{Memory}
use Rattle.packer.specs.Answers.{is_length, is_too_long}
use Rattle.packer.specs.Lines.{lines_of}
use Rattle.packer.specs.Packed.{all_bytes, packed}
use Rattle.packer.proofs.Back.{reads_back}
use Rattle.packer.proofs.Pairs.{length_packed}
use Rattle.packer.proofs.Written.{longer}

pub long_text : (text : List ℕ) → 16384 < length text → true ≡ ltb 16384 (length (packed (lines_of text)))
long_text text h = sym (lt-ltb 16384 (length (packed (lines_of text))) (omega (arith, longer text)))

-- the sizes of a text's lines
module _ (text : List ℕ) (count bytes : ℕ) (n : count ≡ length (lines_of text)) (b : bytes ≡ length (all_bytes (lines_of text))) where
  pub long_file : 16384 < 2 + 4 * count + bytes → true ≡ ltb 16384 (length (packed (lines_of text)))
  long_file h = sym (lt-ltb 16384 (length (packed (lines_of text))) (omega (arith, length_packed (lines_of text))))

  module _ (h : 2 + 4 * count + bytes ≤ 16384) where
    short : length (packed (lines_of text)) ≤ 16384
    short = omega (arith, length_packed (lines_of text))

    -- the file is written, or memory was short
    module _ {V : Type 0} (items : V → List ℕ) where
      pub not_too_long : (r : Result V PackFault) → MatchResult r (λ v. items v ≡ packed (lines_of text)) (λ e. e ≡ Memory) → is_too_long r ≡ ltb 16384 (length (packed (lines_of text)))
      not_too_long (Ok v) e = sym (le-ltb 16384 _ short)
      not_too_long (Err x) e = ap is_length e ∙ sym (le-ltb 16384 _ short)

      pub has_texts : (r : Result V PackFault) → MatchResult r (λ v. items v ≡ packed (lines_of text)) (λ e. e ≡ Memory) → IfOk r (λ v. texts (items v) ≡ Ok (lines_of text))
      has_texts (Ok v) e = ap texts e ∙ reads_back (lines_of text) short
      has_texts (Err x) e = tt
