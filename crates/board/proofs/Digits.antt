-- One more digit of four bits.
use Rattle.std.proofs.Common.{◌≡◌, ℕ, ◌+◌, ◌*◌, ◌%◌, ◌^◌, ◌<◌, ◌≤◌, mul-le-mul_right, mul-add, arith, pow_mono, pow-add, shl_exact}

-- A digit above those of the number, in 128 bits.
pub record Digit (t kind kinds : ℕ) : Type 0 where
  pub exact : (kind * 2 ^ (4 * t)) % 2 ^ 128 ≡ kind * 2 ^ (4 * t)
  pub bound : kinds + kind * 2 ^ (4 * t) < 2 ^ (4 * (t + 1))
  pub fits : 2 ^ (4 * (t + 1)) ≤ 2 ^ 128

pub digit : (t kind kinds : ℕ) → t < 32 → kind ≤ 15 → kinds < 2 ^ (4 * t) → Digit t kind kinds
digit t kind kinds few small below =
    let low : kind < 2 ^ 4 = omega arith in
    let most : kind * 2 ^ (4 * t) ≤ 15 * 2 ^ (4 * t) = mul-le-mul_right _ small in
    let more : 2 ^ (4 * (t + 1)) ≡ 2 ^ (4 * t) * 16 = rw mul-add (pow-add 2 (4 * t) 4) in
    let bits : 4 * (t + 1) ≤ 128 = omega arith in
    record { exact = shl_exact 4 (4 * t) 128 low (omega arith); bound = omega (arith, most, more); fits = pow_mono bits }
