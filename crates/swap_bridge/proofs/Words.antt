-- Numbers of words: a number that is a word is the number of what it means.
use Rattle.std.proofs.Common.{◌≡◌, ℕ, ◌+◌, ◌-◌, ◌*◌, ◌/◌, ◌%◌, ◌≤◌, true, false, cond, not, ◌&&◌, eqb, leb, ◌≢◌, Some, None, refl, arith}
use Rattle.std.proofs.lemmas.Bool.Decides.{nat_tests}
use Rattle.words.specs.declared.word.Word.TheVariants.{Nil, Node, Descriptor, Mark}
use Rattle.words.specs.Words.{told}
use Rattle.memory.specs.declared.meaning.Outcome.TheVariants.{DecidedBy}
use Rattle.memory.specs.Meaning.{outcome_of}
use Rattle.swap_machine.specs.Machine.{Word, plain, descriptor, mark}
use Rattle.swap_bridge.specs.Abstraction.{meaning}

abbrev pub number : Word → ℕ
number (plain n) = n
number (descriptor d) = 65536 + d
number (mark d s) = 131072 + 4096 * s + d

split : (w : ℕ) → 131072 ≤ w → 131072 + 4096 * ((w - 131072) / 4096) + w % 4096 ≡ w
split w h = omega arith

pub told_number : (w : ℕ) → told w ≢ None → number (meaning (told w)) ≡ w
told_number w h =
    elim (eqb w 0) as (λ b. eqb w 0 ≡ b → number (meaning (cond b (Some Nil) (cond (leb w 4095) (Some (Node w)) (cond (leb 65537 w && leb w 69631) (Some (Descriptor (w - 65536))) (cond (leb 131072 w && (leb w 196607 && not (eqb (w % 4096) 0))) (Some (Mark ((w - 131072) / 4096) (w % 4096))) None))))) ≡ w) [
      | true ↦ λ e. grind (arith, nat_tests)
      | false ↦ λ e. grind (arith, nat_tests)
    ] refl

pub told_plain : (n : ℕ) → n ≤ 4095 → meaning (told n) ≡ plain n
told_plain n h = grind (arith, nat_tests)

pub told_descriptor : (d : ℕ) → 1 ≤ d → d ≤ 4095 → told (65536 + d) ≡ Some (Descriptor d)
told_descriptor d l h = grind (arith, nat_tests)

pub told_mark : (s d : ℕ) → s ≤ 15 → 1 ≤ d → d ≤ 4095 → told (131072 + 4096 * s + d) ≡ Some (Mark s d)
told_mark s d k l h =
    let n : ℕ = 131072 + 4096 * s + d in
    let e1 : n % 4096 ≡ d = omega arith in
    let e2 : (n - 131072) / 4096 ≡ s = omega arith in
    grind (arith, nat_tests)

pub told_mark_fits : (w s d : ℕ) → told w ≡ Some (Mark s d) → s ≤ 15
told_mark_fits w s d e = grind (arith, nat_tests)

-- the result that a mark writes
pub outcome_mark : (s d : ℕ) → s ≤ 15 → 1 ≤ d → d ≤ 4095 → outcome_of d (131072 + 4096 * s + d) ≡ Some (DecidedBy s)
outcome_mark s d k l h = let e = told_mark s d k l h in grind (arith, nat_tests)

pub outcome_mark_fits : (d r s : ℕ) → outcome_of d r ≡ Some (DecidedBy s) → s ≤ 15
outcome_mark_fits d r s e = grind (arith, nat_tests)
