-- The digits that are read are the longest front of digits, and come to the number that they write.
use Rattle.std.proofs.Common.{◌≡◌, ℕ, ◌+◌, ◌-◌, ◌*◌, ◌^◌, ◌<◌, ◌≤◌, Bool, true, false, cond, ltb, List, [], ◌∷◌, ◌++◌, get_or, Ok, Err, Result, refl, ap, ◌∙◌, subst, arith, rules}
use Rattle.std.proofs.lemmas.Str.Parse.{IsNumeralModel, numerals_by_fold}
use Rattle.std.proofs.lemmas.Bool.{and_parts, and_from, cond-true, cond-false, lt-ltb, ltb-true}
use Rattle.std.specs.Char.{is_ascii_digit}
use Rattle.std.specs.Str.{all_ascii_digits}
use Rattle.refusals.specs.declared.refusal.Refusal.{Refusal}
use Rattle.refusals.specs.declared.refusal.Refusal.TheVariants.{Wording}
use Rattle.refusals.specs.Answered.{on_ok}
use Rattle.orders.specs.Numbers.{with_digit, digits_of}

-- what digits come to, after digits that came to v
abbrev pub read_on : ℕ → List ℕ → ℕ
read_on v [] = v
read_on v (d ∷ ds) = read_on (v * 10 + (d - 48)) ds

pub own : IsNumeralModel (λ ds. all_ascii_digits ds ≡ true) (read_on 0)
own = numerals_by_fold _ (search rules) read_on (search rules)

read_on_ge : (v : ℕ) (ds : List ℕ) → v ≤ read_on v ds
read_on_ge v [] = omega arith
read_on_ge v (d ∷ ds) = omega (arith, read_on_ge (v * 10 + (d - 48)) ds)

-- no digit stands in front
abbrev pub Stops : List ℕ → Type 0
Stops tail = is_ascii_digit (get_or tail 0 0) ≡ false

stops_here : (v : ℕ) (tail : List ℕ) → Stops tail → digits_of v tail ≡ Ok (v, tail)
stops_here v [] h = refl
stops_here v (c ∷ cs) h = cond-false _ _ _ h

pub digits_complete : (ds tail : List ℕ) (v : ℕ) → all_ascii_digits ds ≡ true → Stops tail → read_on v ds < 2 ^ 32 → digits_of v (ds ++ tail) ≡ Ok (read_on v ds, tail)
digits_complete [] tail v p h l = stops_here v tail h
digits_complete (d ∷ ds) tail v p h l =
    let parts = and_parts (is_ascii_digit d) (all_ascii_digits ds) p in
    let w = v * 10 + (d - 48) in
    let fits : w < 2 ^ 32 = omega (arith, read_on_ge w ds) in
    let more : ℕ → Result (ℕ × List ℕ) Refusal = λ u. digits_of u (ds ++ tail) in
    cond-true (is_ascii_digit d) (on_ok (with_digit v d) more) (Ok (v, d ∷ (ds ++ tail))) parts.0
    ∙ ap (λ r. on_ok r more) (cond-true (ltb w (2 ^ 32)) (Ok w) (Err Wording) (lt-ltb w (2 ^ 32) fits))
    ∙ digits_complete ds tail w parts.1 h l

-- n is what the digits in front of the list come to, and the rest of the list
pub record Fronted (v : ℕ) (list : List ℕ) (n : ℕ × List ℕ) : Type 0 where
  pub front : List ℕ
  pub whole : list ≡ front ++ n.1
  pub digits : all_ascii_digits front ≡ true
  pub stops : Stops n.1
  pub value : n.0 ≡ read_on v front
  pub fits : n.0 < 2 ^ 32

no_digit : (list : List ℕ) (v : ℕ) (n : ℕ × List ℕ) → v < 2 ^ 32 → Stops list → ◌≡◌ {A = Result (ℕ × List ℕ) Refusal} (Ok (v, list)) (Ok n) → Fronted v list n
no_digit list v n h stops e =
    let same : (v, list) ≡ n = cc in
    subst (λ m. Fronted v list m) same (record { front = []; whole = refl; digits = refl; stops = stops; value = refl; fits = h })

module _ (b : ℕ) (rest : List ℕ) (v : ℕ) (n : ℕ × List ℕ) where
  added : (t : Bool) → ltb (v * 10 + (b - 48)) (2 ^ 32) ≡ t → on_ok (cond t (Ok (v * 10 + (b - 48))) (Err Wording)) (λ w. digits_of w rest) ≡ Ok n → (v * 10 + (b - 48) < 2 ^ 32) × (digits_of (v * 10 + (b - 48)) rest ≡ Ok n)
  added true t e = (ltb-true _ _ t, e)
  added false t e = let never : ◌≡◌ {A = ℕ} 0 1 = cc in absurd (omega arith)

  one_digit : is_ascii_digit b ≡ true → Fronted (v * 10 + (b - 48)) rest n → Fronted v (b ∷ rest) n
  one_digit d f =
      record {
        front = b ∷ f.front;
        whole = ap (λ l. b ∷ l) f.whole;
        digits = and_from _ _ d f.digits;
        stops = f.stops;
        value = f.value;
        fits = f.fits;
      }

  by_first : (t : Bool) → is_ascii_digit b ≡ t → v < 2 ^ 32 → ((w : ℕ) → w < 2 ^ 32 → digits_of w rest ≡ Ok n → Fronted w rest n) → cond t (on_ok (with_digit v b) (λ w. digits_of w rest)) (Ok (v, b ∷ rest)) ≡ Ok n → Fronted v (b ∷ rest) n
  by_first true d h more e = let sum = added (ltb (v * 10 + (b - 48)) (2 ^ 32)) refl e in one_digit d (more _ sum.0 sum.1)
  by_first false d h more e = no_digit (b ∷ rest) v n h d e

pub digits_sound : (list : List ℕ) (v : ℕ) (n : ℕ × List ℕ) → v < 2 ^ 32 → digits_of v list ≡ Ok n → Fronted v list n
digits_sound [] v n h e = no_digit [] v n h refl e
digits_sound (b ∷ rest) v n h e = by_first b rest v n (is_ascii_digit b) refl h (λ w l f. digits_sound rest w n l f) e
