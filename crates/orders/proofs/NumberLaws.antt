-- A number is read just where it is spelled, and so are several.
use Rattle.std.proofs.Common.{◌≡◌, ℕ, zero, suc, ◌^◌, ◌<◌, ◌≤◌, Bool, true, false, cond, eqb, List, [], ◌∷◌, ◌++◌, length, get_or, Ok, Err, decimal, Result, sym, refl, ap, ◌∙◌, subst, inl, inr, arith}
use Rattle.std.proofs.lemmas.Fmt.{decimal_digit, decimal-digits_value, decimal_nonempty, digits_value-decimal, digits_decimal, first_decimal}
use Rattle.std.proofs.lemmas.Bool.{and_parts, both_ways, cond-true, cond-false, ne_eqb, eqb-true, eqb-false, cases_lt}
use Rattle.std.specs.Char.{is_ascii_digit}
use Rattle.std.specs.List.{flat_map, AllByRecursion}
use Rattle.std.specs.Str.{all_ascii_digits}
use Rattle.refusals.specs.declared.refusal.Refusal.{Refusal}
use Rattle.refusals.specs.declared.refusal.Refusal.TheVariants.{Wording}
use Rattle.refusals.specs.Answered.{on_ok}
use Rattle.orders.specs.Numbers.{digits_of, decimal_of, number_of, numbers_of}
use Rattle.orders.specs.Spelled.{word_of}
use Rattle.orders.proofs.DigitLaws.{read_on, own, Stops, Fronted, digits_complete, digits_sound}

-- a test that was passed, since the other way refuses
taken : {X : Type 0} (t : Bool) (r : Result X Refusal) (x : X) → cond t r (Err Wording) ≡ Ok x → (t ≡ true) × (r ≡ Ok x)
taken true r x e = (refl, e)
taken false r x e = let never : ◌≡◌ {A = ℕ} 0 1 = cc in absurd (omega arith)

on_ok_sound : {X Y : Type 0} (r : Result X Refusal) (more : X → Result Y Refusal) (y : Y) → on_ok r more ≡ Ok y → (x : X) × (r ≡ Ok x) × (more x ≡ Ok y)
on_ok_sound (Ok x) more y e = (x, refl, e)
on_ok_sound (Err d) more y e = let never : ◌≡◌ {A = ℕ} 0 1 = cc in absurd (omega arith)

decimal_zero : decimal 0 ≡ 48 ∷ []
decimal_zero = decimal_digit 0 (omega arith)

-- the decimal of n stands in front of the text, and the rest behind it
pub record Decimal (text : List ℕ) (n : ℕ × List ℕ) : Type 0 where
  pub spelt : text ≡ decimal n.0 ++ n.1
  pub fits : n.0 < 2 ^ 32

some_digit : (front tail : List ℕ) → Stops tail → is_ascii_digit (get_or (front ++ tail) 0 0) ≡ true → (0 < length front) × (get_or front 0 0 ≡ get_or (front ++ tail) 0 0)
some_digit [] tail stops d = absurd (both_ways _ stops d)
some_digit (c ∷ cs) tail stops d = (omega arith, refl)

module _ (b : ℕ) (rest : List ℕ) (n : ℕ × List ℕ) where
  zero_stands : b ≡ 48 → Decimal (b ∷ rest) (0, rest)
  zero_stands e = record { spelt = ap (λ c. c ∷ rest) e ∙ ap (λ l. l ++ rest) (sym decimal_zero); fits = omega arith }

  digits_stand : (b ≡ 48 → ⊥) → is_ascii_digit b ≡ true → Fronted 0 (b ∷ rest) n → Decimal (b ∷ rest) n
  digits_stand ne d f =
      let first : get_or (f.front ++ n.1) 0 0 ≡ b = ap (λ l. get_or l 0 0) (sym f.whole) in
      let some = some_digit f.front n.1 f.stops (ap is_ascii_digit first ∙ d) in
      let written : decimal (read_on 0 f.front) ≡ f.front =
      decimal-digits_value own f.front f.digits some.0 (λ z. absurd (ne (sym first ∙ sym some.1 ∙ z))) (omega (arith, f.fits, f.value))
      in
      record { spelt = f.whole ∙ ap (λ l. l ++ n.1) (sym written ∙ ap decimal (sym f.value)); fits = f.fits }

  first_digit : (t : Bool) → eqb b 48 ≡ t → cond t (Ok (0, rest)) (cond (is_ascii_digit b) (digits_of 0 (b ∷ rest)) (Err Wording)) ≡ Ok n → Decimal (b ∷ rest) n
  first_digit true t e =
      let same : (0, rest) ≡ n = cc in
      subst (λ m. Decimal (b ∷ rest) m) same (zero_stands (eqb-true _ _ t))
  first_digit false t e =
      let digit = taken (is_ascii_digit b) (digits_of 0 (b ∷ rest)) n e in
      digits_stand (eqb-false _ _ t) digit.0 (digits_sound (b ∷ rest) 0 n (omega arith) digit.1)

decimal_sound : (text : List ℕ) (n : ℕ × List ℕ) → decimal_of text ≡ Ok n → Decimal text n
decimal_sound [] n e = let never : ◌≡◌ {A = ℕ} 0 1 = cc in absurd (omega arith)
decimal_sound (b ∷ rest) n e = first_digit b rest n (eqb b 48) refl e

-- n stands in front of the text, and the rest behind it
pub record Stands (text : List ℕ) (n : ℕ × List ℕ) : Type 0 where
  pub spelt : text ≡ word_of n.0 ++ n.1
  pub fits : n.0 < 2 ^ 32

pub number_sound : (text : List ℕ) (n : ℕ × List ℕ) → number_of text ≡ Ok n → Stands text n
number_sound [] n e = let never : ◌≡◌ {A = ℕ} 0 1 = cc in absurd (omega arith)
number_sound (b ∷ rest) n e =
    let begun = taken (eqb b 32) (decimal_of rest) n e in
    let space = eqb-true b 32 begun.0 in
    let digits = decimal_sound rest n begun.1 in
    record { spelt = (λ j. space j ∷ digits.spelt j); fits = digits.fits }

-- digits of which the first is not 0 are read as digits
all_digits : (ds tail : List ℕ) → 0 < length ds → (get_or ds 0 0 ≡ 48 → ⊥) → all_ascii_digits ds ≡ true → decimal_of (ds ++ tail) ≡ digits_of 0 (ds ++ tail)
all_digits [] tail some ne p = absurd (omega arith)
all_digits (d ∷ ds) tail some ne p = cond-false _ _ _ (ne_eqb d 48 ne) ∙ cond-true _ _ _ (and_parts (is_ascii_digit d) (all_ascii_digits ds) p).0

module _ (n : ℕ) (tail : List ℕ) (fits : n < 2 ^ 32) (stops : Stops tail) where
  reads_zero : n ≤ 0 → decimal_of (decimal n ++ tail) ≡ Ok (n, tail)
  reads_zero h =
      let none : 0 ≡ n = omega arith in
      ap (λ l. decimal_of (l ++ tail)) (ap decimal (sym none) ∙ decimal_zero) ∙ ap (λ k. Ok (k, tail)) none

  reads_digits : 0 < n → decimal_of (decimal n ++ tail) ≡ Ok (n, tail)
  reads_digits h =
      let wide : n < 2 ^ 64 = omega arith in
      let above = first_decimal n h wide in
      let digits = digits_decimal own n wide in
      let value = digits_value-decimal own n wide in
      all_digits (decimal n) tail (decimal_nonempty n wide) (λ e. omega (arith, above)) digits
      ∙ digits_complete (decimal n) tail 0 digits stops (omega (arith, value))
      ∙ ap (λ k. Ok (k, tail)) value

  pub number_complete : number_of (word_of n ++ tail) ≡ Ok (n, tail)
  number_complete = elim (cases_lt 0 n) [ inl h ↦ reads_digits h | inr h ↦ reads_zero h ]

-- the numbers are the whole text
pub record Listed (k : ℕ) (text : List ℕ) (ns : List ℕ) : Type 0 where
  pub spelt : text ≡ flat_map word_of ns
  pub count : length ns ≡ k
  pub fits : AllByRecursion (λ n. n < 2 ^ 32) ns

pub numbers_sound : (k : ℕ) (text ns : List ℕ) → numbers_of k text ≡ Ok ns → Listed k text ns
numbers_sound zero [] ns e = let none : [] ≡ ns = cc in subst (λ l. Listed 0 [] l) none (record { spelt = refl; count = refl; fits = tt })
numbers_sound zero (b ∷ rest) ns e = let never : ◌≡◌ {A = ℕ} 0 1 = cc in absurd (omega arith)
numbers_sound (suc k) text ns e =
    let one = on_ok_sound (number_of text) (λ n. on_ok (numbers_of k n.1) λ ms. Ok (n.0 ∷ ms)) ns e in
    let n = one.0 in
    let more = on_ok_sound (numbers_of k n.1) (λ ms. Ok (n.0 ∷ ms)) ns one.2 in
    let ms = more.0 in
    let all : n.0 ∷ ms ≡ ns = let f = more.2 in cc in
    let stands = number_sound text n one.1 in
    let rest = numbers_sound k n.1 ms more.1 in
    subst (λ l. Listed (suc k) text l) all
    (record { spelt = stands.spelt ∙ ap (λ l. word_of n.0 ++ l) rest.spelt; count = ap suc rest.count; fits = (stands.fits, rest.fits) })

stops_before : (ns : List ℕ) → Stops (flat_map word_of ns)
stops_before [] = refl
stops_before (n ∷ ns) = refl

pub numbers_complete : (ns : List ℕ) → AllByRecursion (λ n. n < 2 ^ 32) ns → numbers_of (length ns) (flat_map word_of ns) ≡ Ok ns
numbers_complete [] fits = refl
numbers_complete (n ∷ ns) fits =
    ap (λ r. on_ok r λ m. on_ok (numbers_of (length ns) m.1) λ ms. Ok (m.0 ∷ ms)) (number_complete n (flat_map word_of ns) fits.0 (stops_before ns))
    ∙ ap (λ r. on_ok r λ ms. Ok (n ∷ ms)) (numbers_complete ns fits.1)
