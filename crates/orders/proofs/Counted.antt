-- What one number makes of the numbers that are left to read.
use Rattle.std.proofs.Common.{◌≡◌, ℕ, suc, ◌+◌, ◌-◌, ◌<◌, List, [], ◌∷◌, ◌++◌, length, take, set, Ok, Err, Result, refl, ap, ◌∙◌, append_assoc, arith}
use Rattle.std.proofs.lemmas.List.{take_more_set}
use Rattle.refusals.specs.declared.refusal.Refusal.{Refusal}
use Rattle.refusals.specs.Answered.{on_ok}
use Rattle.orders.specs.Numbers.{number_of, numbers_of}

-- the numbers in front, and those that are read after them
abbrev pub after : List ℕ → Result (List ℕ) Refusal → Result (List ℕ) Refusal
after front r = on_ok r λ ns. Ok (front ++ ns)

after_more : (front : List ℕ) (v : ℕ) (r : Result (List ℕ) Refusal) → after (front ++ (v ∷ [])) r ≡ after front (on_ok r λ ns. Ok (v ∷ ns))
after_more front v (Ok ns) = ap Ok (append_assoc front (v ∷ []) ns)
after_more front v (Err e) = refl

-- number i of k is to be read from what is left
module _ (left : List ℕ) (k i : ℕ) (items : List ℕ) (whole : Result (List ℕ) Refusal) (inv : after (take i items) (numbers_of (k - i) left) ≡ whole) (h : i < k) where
  next : (r : Result (ℕ × List ℕ) Refusal) → r ≡ number_of left → after (take i items) (on_ok r λ n. on_ok (numbers_of (k - (i + 1)) n.1) λ ns. Ok (n.0 ∷ ns)) ≡ whole
  next r e =
      let one : suc (k - (i + 1)) ≡ k - i = omega arith in
      ap (λ s. after (take i items) (on_ok s λ n. on_ok (numbers_of (k - (i + 1)) n.1) λ ns. Ok (n.0 ∷ ns))) e
      ∙ ap (λ j. after (take i items) (numbers_of j left)) one
      ∙ inv

  pub goes : (n : ℕ × List ℕ) → i < length items → Ok n ≡ number_of left → after (take (i + 1) (set items i n.0)) (numbers_of (k - (i + 1)) n.1) ≡ whole
  goes n l e =
      let rest = numbers_of (k - (i + 1)) n.1 in
      ap (λ front. after front rest) (take_more_set items i n.0 l) ∙ after_more (take i items) n.0 rest ∙ next (Ok n) e

  pub fails : (e : Refusal) → Err e ≡ number_of left → Err e ≡ whole
  fails e is = next (Err e) is
