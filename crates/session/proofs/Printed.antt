-- What is written stands in front, and what lies behind it is as it was.
use Rattle.std.proofs.Common.{◌≡◌, ℕ, ◌+◌, ◌-◌, ◌≤◌, Bool, true, false, cond, List, [], ◌++◌, length, take, drop, Ok, Err, Result, sym, refl, ap, ◌∙◌, subst, append_assoc, append-nil, arith, length-append, length-drop}
use Rattle.std.proofs.lemmas.List.{take_at, drop_at, length-take-le, drop-drop}
use Rattle.std.proofs.lemmas.Bool.Decides.{nat_tests}
use Rattle.refusals.specs.declared.refusal.Refusal.{Refusal}
use Rattle.refusals.specs.declared.refusal.Refusal.TheVariants.{OutputFull}
use Rattle.lines.specs.Places.{fits_at, placed, end_at, written_at}

-- an output of which the first `at` bytes are `front`, and the rest is as in `out`
pub record Holds (out now front : List ℕ) (at : ℕ) : Type 0 where
  pub room : at ≤ length out
  pub shown : take at now ≡ front
  pub behind : drop at now ≡ drop at out
  pub long : length now ≡ length out

pub starts : (out : List ℕ) → Holds out out [] 0
starts out = record { room = omega arith; shown = refl; behind = refl; long = refl }

module _ (out now front bytes : List ℕ) (at : ℕ) (h : Holds out now front at) where
  fit_length : fits_at now at bytes ≡ true → at + length bytes ≤ length out
  fit_length fit = let long = h.long in let le : at + length bytes ≤ length now = grind (arith, nat_tests, fit) in omega (arith, long, le)

  -- bytes that fit
  pub adds : fits_at now at bytes ≡ true → Holds out (placed now at bytes) (front ++ bytes) (at + length bytes)
  adds fit =
      let room = fit_length fit in
      let long = h.long in
      let head : length (take at now) ≡ at = length-take-le at now (omega (arith, room, long)) in
      let whole : length (take at now ++ bytes) ≡ at + length bytes = length-append (take at now) bytes ∙ ap (λ k. k + length bytes) head in
      let rest : List ℕ = drop (at + length bytes) now in
      let joined : placed now at bytes ≡ (take at now ++ bytes) ++ rest = sym (append_assoc (take at now) bytes rest) in
      let left : length rest ≡ length now - (at + length bytes) = length-drop (at + length bytes) now in
      record {
        room = room;
        shown = ap (take (at + length bytes)) joined ∙ take_at (take at now ++ bytes) rest (at + length bytes) whole ∙ ap (λ l. l ++ bytes) h.shown;
        behind = ap (drop (at + length bytes)) joined ∙ drop_at (take at now ++ bytes) rest (at + length bytes) whole
            ∙ sym (drop-drop (length bytes) at now) ∙ ap (drop (length bytes)) h.behind ∙ drop-drop (length bytes) at out;
        long = ap length joined ∙ length-append (take at now ++ bytes) rest ∙ omega (arith, whole, left, long, room);
      }

  -- where the bytes end, and what the output holds then
  pub record Goes (e : Result ℕ Refusal) (new : List ℕ) : Type 0 where
    pub ends : (end : ℕ) → e ≡ Ok end → Holds out new (front ++ bytes) end
    pub stays : (cause : Refusal) → e ≡ Err cause → Holds out new front at

  tried : (fit : Bool) → fits_at now at bytes ≡ fit → Goes (cond fit (Ok (at + length bytes)) (Err OutputFull)) (cond fit (placed now at bytes) now)
  tried true fit = record {
    ends = λ end is. let same : at + length bytes ≡ end = cc in subst (λ k. Holds out (placed now at bytes) (front ++ bytes) k) same (adds fit);
    stays = λ cause is. let z : ◌≡◌ {A = ℕ} 0 1 = cc in let no : ⊥ = omega (arith, z) in absurd no;
  }
  tried false fit = record {
    ends = λ end is. let z : ◌≡◌ {A = ℕ} 0 1 = cc in let no : ⊥ = omega (arith, z) in absurd no;
    stays = λ cause is. h;
  }

  pub prints : Goes (end_at now at bytes) (written_at now at bytes)
  prints = tried (fits_at now at bytes) refl

pub regrouped : (out now a b c : List ℕ) (at : ℕ) → Holds out now ((a ++ b) ++ c) at → Holds out now (a ++ (b ++ c)) at
regrouped out now a b c at h = subst (λ (f : List ℕ). Holds out now f at) (append_assoc a b c) h

pub nothing_added : (out now a : List ℕ) (at : ℕ) → Holds out now a at → Holds out now (a ++ []) at
nothing_added out now a at h = subst (λ (f : List ℕ). Holds out now f at) (sym (append-nil a)) h
