-- The numbers in a text, byte by byte.
use Rattle.std.specs.Prelude.{ℕ, zero, suc, ◌+◌, ◌-◌, ◌*◌, ◌^◌, cond, List, [], ◌∷◌, Ok, Err, Result, ◌==◌, nat_lt}
use Rattle.std.specs.Borrow.{Bor}
use Rattle.std.specs.Char.{is_ascii_digit}
use Rattle.refusals.specs.declared.refusal.Refusal.{Refusal}
use Rattle.refusals.specs.declared.refusal.Refusal.TheVariants.{Wording}
use Rattle.refusals.specs.Answered.{on_ok}

-- a number that was read, and the rest of the text
abbrev pub with_rest : Result (ℕ × Bor (List ℕ)) Refusal → Result (ℕ × List ℕ) Refusal
with_rest (Ok n) = Ok (n.0, n.1.now)
with_rest (Err e) = Err e

-- v with one more digit, if that fits 32 bits
abbrev pub with_digit : ℕ → ℕ → Result ℕ Refusal
with_digit v b = cond (nat_lt (v * 10 + (b - 48)) (2 ^ 32)) (Ok (v * 10 + (b - 48))) (Err Wording)

-- the digits at the front of what is left of a text, after digits that came to v
abbrev pub digits_of : ℕ → List ℕ → Result (ℕ × List ℕ) Refusal
digits_of v [] = Ok (v, [])
digits_of v (b ∷ rest) = cond (is_ascii_digit b) (on_ok (with_digit v b) (λ w. digits_of w rest)) (Ok (v, b ∷ rest))

-- a decimal with no leading zero
abbrev pub decimal_of : List ℕ → Result (ℕ × List ℕ) Refusal
decimal_of [] = Err Wording
decimal_of (b ∷ rest) = cond (b == 48) (Ok (0, rest)) (cond (is_ascii_digit b) (digits_of 0 (b ∷ rest)) (Err Wording))

-- one space, and a decimal with no leading zero
abbrev pub number_of : List ℕ → Result (ℕ × List ℕ) Refusal
number_of [] = Err Wording
number_of (b ∷ rest) = cond (b == 32) (decimal_of rest) (Err Wording)

-- k numbers, and the end of the text
abbrev pub numbers_of : ℕ → List ℕ → Result (List ℕ) Refusal
numbers_of zero [] = Ok []
numbers_of zero (b ∷ rest) = Err Wording
numbers_of (suc k) text = on_ok (number_of text) λ n. on_ok (numbers_of k n.1) λ ns. Ok (n.0 ∷ ns)
