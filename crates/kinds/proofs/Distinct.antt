-- Distinct numbers from 1 to k are at most k many. The library counts the keys of a list by tests (`length-le_from_distinct_below`);
-- the way from these relations to its tests is as long as the count itself.
use Rattle.std.proofs.Common.{◌≡◌, ℕ, zero, suc, ◌+◌, ◌<◌, ◌≤◌, ◌≢◌, ◌⊎◌, List, [], ◌∷◌, length, refl, subst, inl, inr, arith}
use native.Mathlib.Decide.{ℕ_discrete}

abbrev pub In : ℕ → List ℕ → Type 0
In n [] = ⊥
In n (m ∷ ms) = (n ≡ m) ⊎ In n ms

abbrev pub Distinct : List ℕ → Type 0
Distinct [] = Unit {0}
Distinct (x ∷ xs) = (In x xs → ⊥) × Distinct xs

-- what is left of distinct numbers without k
record Without (k : ℕ) (xs : List ℕ) : Type 0 where
  rest : List ℕ
  shorter : length xs ≤ length rest + 1
  distinct : Distinct rest
  from : (m : ℕ) → In m rest → In m xs
  none : In k rest → ⊥

without : (k : ℕ) (xs : List ℕ) → Distinct xs → Without k xs
without k [] d = record { rest = []; shorter = omega arith; distinct = tt; from = λ m i. i; none = λ i. i }
without k (x ∷ xs) d = go (ℕ_discrete k x) (without k xs d.1)
  where
    go : Dec (k ≡ x) → Without k xs → Without k (x ∷ xs)
    go (yes e) w = record { rest = xs; shorter = omega arith; distinct = d.1; from = λ m. inr; none = λ i. d.0 (subst (λ y. In y xs) e i) }
    go (no e) w = record {
      rest = x ∷ w.rest;
      shorter = omega (arith, w.shorter);
      distinct = (λ i. d.0 (w.from x i), w.distinct);
      from = λ m. elim [ inl q ↦ inl q | inr i ↦ inr (w.from m i) ];
      none = elim [ inl q ↦ e q | inr i ↦ w.none i ];
    }

pub at_most : (k : ℕ) (xs : List ℕ) → ((m : ℕ) → In m xs → (0 < m) × (m ≤ k)) → Distinct xs → length xs ≤ k
at_most zero [] within d = omega arith
at_most zero (x ∷ xs) within d = let h = within x (inl refl) in absurd (omega (arith, h.0, h.1))
at_most (suc k) xs within d =
    let w = without (suc k) xs d in
    let less = at_most k w.rest (λ m i. let h = within m (w.from m i) in (h.0, smaller m h.1 (λ e. w.none (subst (λ y. In y w.rest) e i)))) w.distinct in
    omega (arith, w.shorter, less)
  where
    smaller : (m : ℕ) → m ≤ suc k → m ≢ suc k → m ≤ k
    smaller m le ne = omega arith
