-- No text is refused for anything but its wording.
use Rattle.std.proofs.Common.{◌≡◌, ℕ, zero, suc, ◌+◌, ◌-◌, ◌*◌, ◌^◌, Bool, true, false, cond, eqb, ltb, List, [], ◌∷◌, Ok, Err, Result, refl}
use Rattle.std.specs.Char.{is_ascii_digit}
use Rattle.refusals.specs.declared.refusal.Refusal.{Refusal}
use Rattle.refusals.specs.declared.refusal.Refusal.TheVariants.{Wording}
use Rattle.refusals.specs.Answered.{on_ok}
use Rattle.orders.specs.Numbers.{with_digit, digits_of, decimal_of, number_of, numbers_of}

abbrev pub ByWording : {X : Type 0} → Result X Refusal → Type 0
ByWording (Ok x) = Unit {0}
ByWording (Err e) = e ≡ Wording

of_cond : {X : Type 0} (t : Bool) (r s : Result X Refusal) → ByWording r → ByWording s → ByWording (cond t r s)
of_cond true r s p q = p
of_cond false r s p q = q

of_on_ok : {X Y : Type 0} (r : Result X Refusal) (more : X → Result Y Refusal) → ByWording r → ((x : X) → ByWording (more x)) → ByWording (on_ok r more)
of_on_ok (Ok x) more p q = q x
of_on_ok (Err e) more p q = p

of_digit : (v b : ℕ) → ByWording (with_digit v b)
of_digit v b = of_cond (ltb (v * 10 + (b - 48)) (2 ^ 32)) (Ok (v * 10 + (b - 48))) (Err Wording) tt refl

of_digits : (list : List ℕ) (v : ℕ) → ByWording (digits_of v list)
of_digits [] v = tt
of_digits (b ∷ rest) v =
    of_cond (is_ascii_digit b) (on_ok (with_digit v b) (λ w. digits_of w rest)) (Ok (v, b ∷ rest))
    (of_on_ok (with_digit v b) (λ w. digits_of w rest) (of_digit v b) (λ w. of_digits rest w))
    tt

of_decimal : (text : List ℕ) → ByWording (decimal_of text)
of_decimal [] = refl
of_decimal (b ∷ rest) =
    of_cond (eqb b 48) (Ok (0, rest)) (cond (is_ascii_digit b) (digits_of 0 (b ∷ rest)) (Err Wording)) tt
    (of_cond (is_ascii_digit b) (digits_of 0 (b ∷ rest)) (Err Wording) (of_digits (b ∷ rest) 0) refl)

of_number : (text : List ℕ) → ByWording (number_of text)
of_number [] = refl
of_number (b ∷ rest) = of_cond (eqb b 32) (decimal_of rest) (Err Wording) (of_decimal rest) refl

pub of_numbers : (k : ℕ) (text : List ℕ) → ByWording (numbers_of k text)
of_numbers zero [] = tt
of_numbers zero (b ∷ rest) = refl
of_numbers (suc k) text =
    of_on_ok (number_of text) (λ n. on_ok (numbers_of k n.1) λ ns. Ok (n.0 ∷ ns)) (of_number text)
    (λ n. of_on_ok (numbers_of k n.1) (λ ns. Ok (n.0 ∷ ns)) (of_numbers k n.1) (λ ns. tt))
