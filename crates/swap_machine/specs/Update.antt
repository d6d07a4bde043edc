-- Functions on numbers that differ in one place. History and the swap's machine define them alike, since neither crate is about the
-- other or uses it.
use Rattle.std.specs.Prelude.{ℕ, cond, eqb}

-- f, but v at k
abbrev pub update : {A : Type 0} → (ℕ → A) → ℕ → A → ℕ → A
update f k v x = cond (eqb x k) v (f x)
