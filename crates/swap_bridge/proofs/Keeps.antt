-- What the system does keeps it valid.
use Rattle.std.proofs.Common.{None, Option, Some, ◌≡◌, ℕ, ◌+◌, ◌-◌, ◌≤◌, Bool, ◌≢◌, length, Ok, sym, refl, ap, ◌∙◌, subst, arith, length-set}
use native.Mathlib.Decide.{ℕ_discrete}
use Rattle.words.specs.Words.{told}
use Rattle.records.specs.declared.entries.Node.{Node}
use Rattle.records.specs.declared.entries.Descriptor.{Descriptor as Record}
use Rattle.memory.specs.Addresses.{addressed}
use Rattle.memory.specs.Seen.{Seen}
use Rattle.memory.specs.Reads.{word_at}
use Rattle.memory.specs.Meaning.{outcome_of}
use Rattle.swap_access.specs.declared.effect.Write.{Write}
use Rattle.swap_access.specs.declared.effect.Write.TheVariants.{Word as WordWrite, Result as ResultWrite}
use Rattle.swap_access.specs.declared.position.Next.{Next}
use Rattle.swap_access.specs.declared.position.Next.TheVariants.{At, Ended}
use Rattle.swap_access.specs.declared.position.Position.TheVariants.{Publish, ReadResult, Clean, PlaceMark, ReRead, TryToFail, GiveBack, Decide, FinishFirst, FinishSecond, WriteSuccess, Withdraw}
use Rattle.swap_access.specs.Found.{known}
use Rattle.swap_step.specs.Steps.{written}
use Rattle.swap_step.specs.Writes.{with_result}
use Rattle.swap_machine.specs.Update.{update}
use Rattle.swap_machine.specs.Machine.{fresh, Memory, at_publish}
use Rattle.swap_machine.specs.Invariant.{Live, Knows}
use Rattle.swap_bridge.specs.Systems.{Standing, resting, working}
use Rattle.swap_bridge.specs.Abstraction.{record_at, or_zero, result_at, place_of}
use Rattle.swap_bridge.specs.Valid.{Plain, Task, Proper, Prepared, Stands, Rooms}
use Rattle.swap_bridge.specs.Does.{filled, grown, going}
use Rattle.swap_bridge.proofs.Tables.{Like, like_grown, grown_here, grown_there, like_word, like_filled, wrote_here, wrote_there, next_length, filled_here, filled_there, taken_place, written_result}
use Rattle.swap_bridge.proofs.Accesses.{plain_known, plain_kept, known_kept}
use Rattle.swap_bridge.proofs.Moves.{WritesWell, GoesWell}
use Rattle.swap_bridge.proofs.Memories.{upd_same, upd_other}

abbrev pub Known : Seen → Type 0
Known m = (a w : ℕ) → word_at m a ≡ Ok w → known m w (told w) ≡ Ok w

pub task_kept : {m m' : Seen} (x : Record) → Like m m' → Task m x → Task m' x
task_kept x k t =
    record {
      first_address = k.addresses x.first.address t.first_address;
      first_old = plain_kept x.first.old k t.first_old;
      first_new = plain_kept x.first.new k t.first_new;
      second_address = k.addresses x.second.address t.second_address;
      second_old = plain_kept x.second.old k t.second_old;
      second_new = plain_kept x.second.new k t.second_new;
    }

-- the tables afterwards: valid as before, with every proper descriptor, and the descriptors that were not published unchanged
pub record Kept (m m' : Seen) (b : ℕ → Bool) : Type 0 where
  pub rooms : Rooms m'
  pub words : Known m'
  pub proper : (d : ℕ) → Proper m d → Proper m' d
  pub unpublished : (d : ℕ) → result_at m b d ≡ fresh → record_at m' d ≡ record_at m d

-- a descriptor whose record is written
module _ (m : Seen) (d : ℕ) (x : Record) (l : 1 ≤ d) (k : d ≤ m.descriptors_taken + 1) (h : d ≤ length m.descriptors) where
  pub filled_rooms : Rooms m → Rooms (filled m d x)
  filled_rooms r = record { nodes = r.nodes; descriptors = subst (λ n. n ≤ 4095) (sym (length-set m.descriptors (d - 1) x)) r.descriptors }

  pub filled_known : Known m → Known (filled m d x)
  filled_known q a w e = known_kept w (told w) (like_filled m d x) (q a w e)

  pub filled_proper : Task m x → Proper (filled m d x) d
  filled_proper t =
      let e = filled_here m d x l h in
      record { taken = e ∙ ap Ok (sym (ap or_zero e)); task = subst (Task (filled m d x)) (sym (ap or_zero e)) (task_kept x (like_filled m d x) t) }

  pub filled_others : (f : ℕ) → f ≢ d → Proper m f → Proper (filled m d x) f
  filled_others f n p =
      let e = filled_there m d f x l k n in
      record { taken = e ∙ p.taken ∙ ap Ok (sym (ap or_zero e)); task = subst (Task (filled m d x)) (sym (ap or_zero e)) (task_kept (record_at m f) (like_filled m d x) p.task) }

with_result_task : (m : Seen) (x : Record) (r : ℕ) → Task m x → Task m (with_result x r)
with_result_task m x r t = record { first_address = t.first_address; first_old = t.first_old; first_new = t.first_new; second_address = t.second_address; second_old = t.second_old; second_new = t.second_new }

not_live : (m : Seen) (b : ℕ → Bool) (d f : ℕ) → Live (result_at m b d) → result_at m b f ≡ fresh → f ≢ d
not_live m b d f l e q = subst Live (ap (result_at m b) (sym q) ∙ e) l

pub keeps_write : (m : Seen) (b : ℕ → Bool) → Rooms m → Known m → (w : Option Write) → WritesWell m b w → Kept m (written w m) b
keeps_write m b r q None ww = record { rooms = record { nodes = r.nodes; descriptors = r.descriptors }; words = q; proper = λ d p. record { taken = p.taken; task = p.task }; unpublished = λ d e. refl }
keeps_write m b r q (Some (WordWrite a w)) ww =
    record {
      rooms = record { nodes = subst (λ n. n ≤ 4095) (sym (next_length m.nodes (addressed a) w)) r.nodes; descriptors = r.descriptors };
      words =
          λ c y e.
          elim (ℕ_discrete a c) [
            | yes z ↦ let g : Ok y ≡ Ok w = sym e ∙ ap (word_at (written (Some (WordWrite a w)) m)) (sym z) ∙ wrote_here m a w ww.0 in let g' : y ≡ w = cc in subst (λ n. known (written (Some (WordWrite a w)) m) n (told n) ≡ Ok n) (sym g') (known_kept w (told w) (like_word m a w) ww.1)
            | no n ↦ known_kept y (told y) (like_word m a w) (q c y (sym (wrote_there m a c w n) ∙ e))
          ];
      proper = λ d p. record { taken = p.taken; task = task_kept (record_at m d) (like_word m a w) p.task };
      unpublished = λ d e. refl;
    }
keeps_write m b r q (Some (ResultWrite d n)) ww =
    let e = ww.0.taken in
    let p = taken_place m d e in
    let x : Record = with_result (record_at m d) n in
    let k : d ≤ m.descriptors_taken + 1 = omega (arith, p.1) in
    subst (λ y. Kept m y b) (sym (written_result m d n e))
    (record {
      rooms = filled_rooms m d x p.0 k p.2 r;
      words = filled_known m d x p.0 k p.2 q;
      proper = λ f z. elim (ℕ_discrete f d) [ yes g ↦ subst (Proper (filled m d x)) (sym g) (filled_proper m d x p.0 k p.2 (with_result_task m (record_at m d) n ww.0.task)) | no g ↦ filled_others m d x p.0 k p.2 f g z ];
      unpublished = λ f z. ap or_zero (filled_there m d f x p.0 k (not_live m b d f ww.1 z));
    })

pub keeps_grown : (m : Seen) (b : ℕ → Bool) (x : Node) → Rooms m → Known m → m.nodes_taken + 1 ≤ length m.nodes → Plain m x.next → Kept m (grown m x) b
keeps_grown m b x r q h px =
    let k = like_grown m x h r.nodes in
    record {
      rooms = record { nodes = subst (λ n. n ≤ 4095) (sym (length-set m.nodes m.nodes_taken x)) r.nodes; descriptors = r.descriptors };
      words =
          λ c y e.
          elim (ℕ_discrete c (64 + (m.nodes_taken + 1))) [
            | yes z ↦ let g : Ok y ≡ Ok x.next = sym e ∙ ap (word_at (grown m x)) z ∙ grown_here m x h r.nodes in let g' : y ≡ x.next = cc in subst (λ n. known (grown m x) n (told n) ≡ Ok n) (sym g') (known_kept x.next (told x.next) k (plain_known m x.next r px))
            | no n ↦ known_kept y (told y) k (q c y (sym (grown_there m x c n) ∙ e))
          ];
      proper = λ d p. record { taken = p.taken; task = task_kept (record_at m d) k p.task };
      unpublished = λ d e. refl;
    }

-- a scanner that does not move stands as well as before, if what it is about to publish does
pub stands_kept : (m m' : Seen) (mem : Memory) (t : ℕ) → ((d : ℕ) → Knows mem t (at_publish d) → Prepared m (Publish d) → Prepared m' (Publish d)) → (w : Standing) → Knows mem t (place_of w) → Stands m t w → Stands m' t w
stands_kept m m' mem t g resting k h = tt
stands_kept m m' mem t g (working own (Publish d)) k h = (h.0, h.1, g d k h.2)
stands_kept m m' mem t g (working own (ReadResult d met)) k h = h
stands_kept m m' mem t g (working own (Clean d met)) k h = h
stands_kept m m' mem t g (working own (PlaceMark d)) k h = h
stands_kept m m' mem t g (working own (ReRead d)) k h = h
stands_kept m m' mem t g (working own (TryToFail d)) k h = h
stands_kept m m' mem t g (working own (GiveBack d)) k h = h
stands_kept m m' mem t g (working own (Decide d u placed)) k h = h
stands_kept m m' mem t g (working own (FinishFirst d u)) k h = h
stands_kept m m' mem t g (working own (FinishSecond d u)) k h = h
stands_kept m m' mem t g (working own (WriteSuccess d u)) k h = h
stands_kept m m' mem t g (working own (Withdraw d ok)) k h = h

pub kept_prepared : {m m' : Seen} {b : ℕ → Bool} → Kept m m' b → (d : ℕ) → result_at m b d ≡ fresh → Prepared m (Publish d) → Prepared m' (Publish d)
kept_prepared k d f h = (k.proper d h.0, ap (λ y. outcome_of d y.result) (k.unpublished d f) ∙ h.1)

-- who is about to publish d has prepared it
pub about_to_publish : (m : Seen) (s d : ℕ) (w : Standing) → place_of w ≡ at_publish d → Stands m s w → Proper m d
about_to_publish m s d resting q h = grind arith
about_to_publish m s d (working own (Publish f)) q h = let e : f ≡ d = cc in subst (Proper m) e h.2.0
about_to_publish m s d (working own (ReadResult f met)) q h = grind arith
about_to_publish m s d (working own (Clean f met)) q h = grind arith
about_to_publish m s d (working own (PlaceMark f)) q h = grind arith
about_to_publish m s d (working own (ReRead f)) q h = grind arith
about_to_publish m s d (working own (TryToFail f)) q h = grind arith
about_to_publish m s d (working own (GiveBack f)) q h = grind arith
about_to_publish m s d (working own (Decide f u placed)) q h = grind arith
about_to_publish m s d (working own (FinishFirst f u)) q h = grind arith
about_to_publish m s d (working own (FinishSecond f u)) q h = grind arith
about_to_publish m s d (working own (WriteSuccess f u)) q h = grind arith
about_to_publish m s d (working own (Withdraw f ok)) q h = grind arith

-- one scanner goes on, and the others stand as before
pub moved_stands : (m : Seen) (at : ℕ → Standing) (s : ℕ) (w : Standing) → Stands m s w → ((t : ℕ) → t ≢ s → Stands m t (at t)) → (t : ℕ) → Stands m t (update at s w t)
moved_stands m at s w here there t =
    elim (ℕ_discrete t s) [
      | yes q ↦ subst (λ y. Stands m y (update at s w y)) (sym q) (subst (Stands m s) (sym (upd_same at s w s refl)) here)
      | no n ↦ subst (Stands m t) (sym (upd_other at s w t n)) (there t n)
    ]

pub going_stands : (m : Seen) (s : ℕ) (own : Bool) (next : Next) → s ≤ 15 → GoesWell own next → Stands m s (going own next)
going_stands m s own (At p) low g = (low, g.0, g.1 m)
going_stands m s own (Ended e) low g = tt
