-- The digits of the kinds when one is added above them.
use Rattle.std.proofs.Common.{◌≡◌, ℕ, ◌+◌, ◌-◌, ◌*◌, ◌/◌, ◌%◌, ◌^◌, ◌<◌, ◌≤◌, ap, ◌∙◌, mod-eq_of_lt, arith, pow_pos, pow-add}
use native.Mathlib.Nat.{add-mul-div_right, add-mul-mod_self_right, div-eq_of_lt}

-- the new digit, above the others
pub new_digit : (t kind kinds : ℕ) → kind ≤ 15 → kinds < 2 ^ (4 * t) → (kinds + kind * 2 ^ (4 * t)) / 2 ^ (4 * t) % 16 ≡ kind
new_digit t kind kinds small below =
    let pos : 0 < 2 ^ (4 * t) = omega arith in
    let over : (kinds + kind * 2 ^ (4 * t)) / 2 ^ (4 * t) ≡ kinds / 2 ^ (4 * t) + kind = add-mul-div_right kinds kind pos in
    let none : kinds / 2 ^ (4 * t) ≡ 0 = div-eq_of_lt below in
    let all : (kinds + kind * 2 ^ (4 * t)) / 2 ^ (4 * t) ≡ kind = omega (arith, over, none) in
    ap (λ q. q % 16) all ∙ mod-eq_of_lt (omega arith)

-- a multiple of 16 above a digit does not change it
above : (kinds kind p q : ℕ) → 0 < p → (kinds + kind * (p * (16 * q))) / p % 16 ≡ kinds / p % 16
above kinds kind p q pos =
    let grouped : kind * (p * (16 * q)) ≡ (kind * q * 16) * p = grind arith in
    ap (λ n. (kinds + n) / p % 16) grouped ∙ ap (λ n. n % 16) (add-mul-div_right kinds (kind * q * 16) pos) ∙ add-mul-mod_self_right (kinds / p) (kind * q) 16

-- a digit below it
pub old_digit : (u t kind kinds : ℕ) → u < t → (kinds + kind * 2 ^ (4 * t)) / 2 ^ (4 * u) % 16 ≡ kinds / 2 ^ (4 * u) % 16
old_digit u t kind kinds less =
    let split : 4 * t ≡ 4 * u + (4 + (4 * (t - u) - 4)) = omega arith in
    let power : 2 ^ (4 * t) ≡ 2 ^ (4 * u) * (16 * 2 ^ (4 * (t - u) - 4)) =
    ap (λ n. 2 ^ n) split ∙ pow-add 2 (4 * u) (4 + (4 * (t - u) - 4)) ∙ ap (λ n. 2 ^ (4 * u) * n) (pow-add 2 4 (4 * (t - u) - 4)) in
    ap (λ n. (kinds + kind * n) / 2 ^ (4 * u) % 16) power ∙ above kinds kind (2 ^ (4 * u)) (2 ^ (4 * (t - u) - 4)) (pow_pos (4 * u))
