-- The waits double from the second on, and from the eighth on they stay.
use Rattle.std.proofs.Common.{◌≡◌, ℕ, zero, suc, ◌+◌, ◌-◌, ◌*◌, ◌<◌, ◌≤◌, refl, ap, ◌∙◌, add-one, arith}
use Rattle.waits.specs.Waits.{turns_after, Doubling}

-- by how far behind the eighth
stays_behind : (k : ℕ) → turns_after (8 + k) ≡ 64
stays_behind k = let e : 8 + k ≡ suc (suc (suc (suc (suc (suc (suc (suc k))))))) = omega arith in ap turns_after e ∙ go k
  where
    go : (k : ℕ) → turns_after (suc (suc (suc (suc (suc (suc (suc (suc k)))))))) ≡ 64
    go zero = refl
    go (suc k) = refl

pub stays : (n : ℕ) → 8 ≤ n → turns_after n ≡ 64
stays n le = let e : n ≡ 8 + (n - 8) = omega arith in ap turns_after e ∙ stays_behind (n - 8)

-- one after the other, since the list is short
doubles : (n : ℕ) → 2 ≤ n → n < 8 → turns_after (suc n) ≡ 2 * turns_after n
doubles zero lo hi = absurd (omega arith)
doubles (suc zero) lo hi = absurd (omega arith)
doubles (suc (suc zero)) lo hi = refl
doubles (suc (suc (suc zero))) lo hi = refl
doubles (suc (suc (suc (suc zero)))) lo hi = refl
doubles (suc (suc (suc (suc (suc zero))))) lo hi = refl
doubles (suc (suc (suc (suc (suc (suc zero)))))) lo hi = refl
doubles (suc (suc (suc (suc (suc (suc (suc zero))))))) lo hi = refl
doubles (suc (suc (suc (suc (suc (suc (suc (suc k)))))))) lo hi = absurd (omega arith)

pub doubling : Doubling turns_after
doubling = record {
  none = refl;
  first = refl;
  second = refl;
  doubles = λ n lo hi. ap turns_after (add-one n) ∙ doubles n lo hi;
  stays = stays;
}
