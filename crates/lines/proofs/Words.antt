-- One more number behind those that are written.
use Rattle.std.proofs.Common.{◌≡◌, ℕ, ◌+◌, ◌-◌, ◌<◌, List, [], ◌∷◌, ◌++◌, length, get_or, take, drop, set, decimal, sym, ap, ◌∙◌, append_assoc, arith, length-append}
use borrow.Rule.Slice.PartMut.{put_mid}
use Rattle.std.proofs.lemmas.List.{take_more, flat_map_more, length_push}
use Rattle.std.specs.List.{flat_map}
use Rattle.lines.specs.Lines.{word_of}
use Rattle.lines.specs.Places.{placed}
use Rattle.lines.proofs.Front.{pushed, added}

-- number i is written behind `head` and the numbers before it
module _ (head numbers : List ℕ) (i : ℕ) (h : i < length numbers) where
  next : ((head ++ flat_map word_of (take i numbers)) ++ (32 ∷ [])) ++ decimal (get_or numbers i 0) ≡ head ++ flat_map word_of (take (i + 1) numbers)
  next =
      let before = flat_map word_of (take i numbers) in
      let digits = decimal (get_or numbers i 0) in
      append_assoc (head ++ before) (32 ∷ []) digits
      ∙ append_assoc head before (32 ∷ digits)
      ∙ ap (λ l. head ++ l) (flat_map_more word_of [] (take i numbers) (get_or numbers i 0) ∙ ap (flat_map word_of) (sym (take_more numbers i 0 h)))

  pub word_ends : (end k : ℕ) → end ≡ length (head ++ flat_map word_of (take i numbers)) → k ≡ length (decimal (get_or numbers i 0)) → end + 1 + k ≡ length (head ++ flat_map word_of (take (i + 1) numbers))
  word_ends end k e d = let front = head ++ flat_map word_of (take i numbers) in omega (arith, ap length next, length-append (front ++ (32 ∷ [])) (decimal (get_or numbers i 0)), length_push front 32)

  pub word_written : (out now last : List ℕ) (end : ℕ) → end < length out → end ≡ length (head ++ flat_map word_of (take i numbers)) → now ≡ placed out 0 (head ++ flat_map word_of (take i numbers))
      → last ≡ placed (take (length (set now end 32) - (end + 1)) (drop (end + 1) (set now end 32))) 0 (decimal (get_or numbers i 0))
      → put_mid (end + 1) (length (set now end 32) - (end + 1)) (set now end 32) last ≡ placed out 0 (head ++ flat_map word_of (take (i + 1) numbers))
  word_written out now last end room e is wrote =
      let front = head ++ flat_map word_of (take i numbers) in
      let spaced = pushed out front now end is e 32 room in
      let past : end + 1 ≡ length (front ++ (32 ∷ [])) = omega (arith, length_push front 32) in
      added out (front ++ (32 ∷ [])) (set now end 32) (end + 1) spaced past (decimal (get_or numbers i 0)) last wrote ∙ ap (placed out 0) next
