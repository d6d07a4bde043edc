-- The parcels along next words.
use Rattle.std.specs.Prelude.{ℕ, zero, suc, ◌+◌, List, [], ◌∷◌}
use Rattle.kinds.specs.Views.{View}

-- from a word on, through at most so many nodes, up to nil
abbrev pub walk : ℕ → View → ℕ → List ℕ
walk zero V n = []
walk (suc k) V zero = []
walk (suc k) V (suc n) = V.parcel (suc n) ∷ walk k V (V.word (64 + suc n))
