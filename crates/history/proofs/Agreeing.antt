-- A change of the trays by the plain rule is what the plain lists do, where they hold the same.
use Rattle.std.proofs.Common.{◌≡◌, refl, sym, ◌∙◌, ap, ◌≢◌, ℕ, ◌<◌}
use Rattle.records.specs.declared.scanner.Wish.{Wish}
use Rattle.records.specs.declared.scanner.Wish.TheVariants.{Put, Take, Move}
use Rattle.kinds.specs.Plain.{Rule, adds, yields}
use Rattle.history.specs.Update.{update}
use Rattle.history.specs.Events.{gave, was_empty}
use Rattle.history.specs.PlainLists.{Trays, told, without, shifted, reply, after, OnBoard, Change, FindsEmpty}
use Rattle.history.proofs.Update.{update_all}

-- both hold the same in every tray of the board
abbrev pub Agree : ℕ → Trays → Trays → Type 0
Agree trays S T = (t : ℕ) → t < trays → S t ≡ T t

module _ (R : ℕ → Rule) (trays : ℕ) (S T T' : Trays) (same : Agree trays S T) where
  -- the plain lists answer with the parcel of the change
  pub change_reply : (w : Wish) (x : ℕ) → Change R trays w x T T' → reply R w S ≡ gave x
  change_reply (Put t y) x c = ap gave c.1
  change_reply (Take t) x c = ap (λ l. told (yields (R t) l)) (same t c.0) ∙ ap told c.1
  change_reply (Move f g) x c = ap (λ l. told (yields (R f) l)) (same f c.0) ∙ ap told c.3

  -- and leave what the change leaves
  pub change_after : (w : Wish) (x : ℕ) → Change R trays w x T T' → Agree trays T' (after R w S)
  change_after (Put t y) x c u l =
      update_all (λ u l. u < trays → T' u ≡ l) S t (adds (R t) y (S t))
      (λ l. c.2 ∙ ap (λ z. adds (R t) z (T t)) (sym c.1) ∙ ap (adds (R t) y) (sym (same t l)))
      (λ u k l. c.3 u l k ∙ sym (same u l)) u l
  change_after (Take t) x c u l =
      update_all (λ u l. u < trays → T' u ≡ l) S t (T' t) (λ l. refl) (λ u k l. c.2 u l k ∙ sym (same u l)) u l
      ∙ ap (λ g. without t S g u) (sym (ap (yields (R t)) (same t c.0) ∙ c.1))
  change_after (Move f g) x c u l =
      update_all (λ u l. u < trays → T' u ≡ l) (update S f (T' f)) g (adds (R g) x (S g)) (λ l. c.4 ∙ ap (adds (R g) x) (sym (same g l)))
      (update_all (λ u l. u ≢ g → u < trays → T' u ≡ l) S f (T' f) (λ _ l. refl) (λ u k k' l. c.5 u l k k' ∙ sym (same u l))) u l
      ∙ ap (λ p. shifted R f g S p u) (sym (ap (yields (R f)) (same f c.0) ∙ c.3))

-- a take or move that meets its tray empty is told so
pub empty_reply : (R : ℕ → Rule) (trays : ℕ) (S T : Trays) → Agree trays S T → (w : Wish) → OnBoard trays w → FindsEmpty w T → reply R w S ≡ was_empty
empty_reply R trays S T same (Put t y) l e = absurd e
empty_reply R trays S T same (Take t) l e = ap (λ l. told (yields (R t) l)) (same t l ∙ e)
empty_reply R trays S T same (Move f g) l e = ap (λ l. told (yields (R f) l)) (same f l.0 ∙ e)
