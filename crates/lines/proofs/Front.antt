-- Bytes written at the front of an output, behind those that stand there.
use Rattle.std.proofs.Common.{◌≡◌, ℕ, ◌+◌, ◌-◌, ◌<◌, List, [], ◌∷◌, ◌++◌, length, get_or, take, drop, set, sym, refl, ap, ◌∙◌, append_assoc, append-nil, zero-add, arith, length-append, length-drop}
use borrow.Rule.Slice.PartMut.{put_mid}
use Rattle.std.proofs.Math.Seq.{set-append_seam}
use Rattle.std.proofs.lemmas.List.{take_at, drop_at, drop_more, drop_all, drop-drop, take_rest, length_push}
use Rattle.lines.specs.Places.{placed}

in_front : (out x : List ℕ) → placed out 0 x ≡ x ++ drop (length x) out
in_front out x = ap (λ n. x ++ drop n out) (zero-add (length x))

module _ (out x now : List ℕ) (end : ℕ) (wrote : now ≡ placed out 0 x) (at_end : end ≡ length x) where
  is : now ≡ x ++ drop (length x) out
  is = wrote ∙ in_front out x

  -- one byte
  pub pushed : (b : ℕ) → end < length out → set now end b ≡ placed out 0 (x ++ (b ∷ []))
  pushed b h =
      let rest : drop (length x) out ≡ get_or out (length x) 0 ∷ drop (length x + 1) out = drop_more out (length x) 0 (omega arith) in
      (λ j. set (is j) (at_end j) b)
      ∙ ap (λ l. set (x ++ l) (length x) b) rest
      ∙ set-append_seam x (get_or out (length x) 0) (drop (length x + 1) out) b
      ∙ sym (append_assoc x (b ∷ []) (drop (length x + 1) out))
      ∙ ap (λ n. (x ++ (b ∷ [])) ++ drop n out) (sym (length_push x b))
      ∙ sym (in_front out (x ++ (b ∷ [])))

  -- bytes, written at the front of `&mut now[end..]`
  pub added : (y last : List ℕ) → last ≡ placed (take (length now - end) (drop end now)) 0 y → put_mid end (length now - end) now last ≡ placed out 0 (x ++ y)
  added y last e =
      let room : List ℕ = drop (length x) out in
      let long : length now ≡ length x + length room = ap length is ∙ length-append x room in
      let past : drop end now ≡ room = (λ j. drop (at_end j) (is j)) ∙ drop_at x room _ refl in
      let before : take end now ≡ x = (λ j. take (at_end j) (is j)) ∙ take_at x room _ refl in
      let lent : take (length now - end) (drop end now) ≡ room = take_rest now end ∙ past in
      let none : drop (length now - end) (drop end now) ≡ [] = drop_all _ (drop end now) (simp length-drop (omega arith)) in
      (λ j. before j ++ (e j ++ none j))
      ∙ ap (λ l. x ++ l) (append-nil (placed (take (length now - end) (drop end now)) 0 y) ∙ ap (λ l. placed l 0 y) lent ∙ in_front room y)
      ∙ ap (λ l. x ++ (y ++ l)) (drop-drop (length y) (length x) out)
      ∙ sym (append_assoc x y (drop (length x + length y) out))
      ∙ ap (λ n. (x ++ y) ++ drop n out) (sym (length-append x y))
      ∙ sym (in_front out (x ++ y))
