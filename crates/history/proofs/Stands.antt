-- How far a scanner's request is, as far as the ledger has to know.
use Rattle.std.proofs.Common.{◌≡◌, Bool, ℕ}
use Rattle.records.specs.declared.scanner.Wish.{Wish}

pub data Stand : Type 0 where
  -- no request in work
  off : Stand
  -- request, wish, and whether it is in the ledger as one that met its tray empty
  waiting : ℕ → Wish → Bool → Stand
  -- it took effect: request, wish, and its parcel
  effected : ℕ → Wish → ℕ → Stand

-- it is the request r
abbrev pub On : Stand → ℕ → Type 0
On off r = ⊥
On (waiting q w b) r = q ≡ r
On (effected q w x) r = q ≡ r
