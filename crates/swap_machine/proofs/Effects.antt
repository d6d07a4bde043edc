-- What each kind of write leaves to the others.
use Rattle.std.proofs.Common.{◌≡◌, refl, sym, subst, ◌≢◌, ℕ, arith}
use Rattle.swap_machine.specs.Update.{update}
use Rattle.swap_machine.specs.Machine.{Word, plain, descriptor, mark, Outcome, fresh, undecided, Fields, scanner, Memory, Position, at_publish, State, Event, write, set_result, prepare, publish, Takes}
use Rattle.swap_machine.specs.Positions.{AboutToPlace}
use Rattle.swap_machine.specs.Invariant.{Live, Installable, WonBy, Succeeded, InPlace, Knows, Required, Invariant}
use Rattle.swap_machine.specs.Safety.{Later, same, publishes}
use Rattle.swap_machine.proofs.Basics.{update_all, later_live}
use Rattle.swap_machine.proofs.Stable.{Effect}

-- nothing is written
pub no_write : {e : Event} {c0 : Position} (s : ℕ) (σ : State) → Invariant σ → Effect e s c0 σ σ.memory
no_write s σ inv =
    record {
      rely =
          record {
            later = λ d. same;
            kept = λ d l. record { same_fields = refl; first_gone = λ h. h; second_gone = λ x z h. h; freed = λ x z c f. f; stays = λ x u e. e };
            unpublished = λ t d h k. k;
          };
      sound = inv.sound;
      required = λ t d h. inv.required t d;
      owned = inv.owned;
    }

-- s may write v at p: v is no descriptor, and a mark only if it is that of s, which was about to place it; what was there is not of an
-- undecided descriptor
pub record Writes (s : ℕ) (c0 : Position) (m : Memory) (p : ℕ) (v : Word) : Type 0 where
  pub fits : InPlace m p v
  pub no_descriptor : (d : ℕ) → v ≢ descriptor d
  pub own_mark : (d x : ℕ) → v ≡ mark d x → (x ≡ s) × AboutToPlace d c0
  pub free_first : (d : ℕ) → m.result d ≡ undecided → m.word p ≢ descriptor d
  pub free_second : (d x : ℕ) → m.result d ≡ undecided → m.word p ≢ mark d x

-- a later result r of d0 may be written by s
pub record SetsResult (e : Event) (s : ℕ) (σ : State) (d0 : ℕ) (r : Outcome) : Type 0 where
  pub live : Live (σ.memory.result d0)
  pub step : Later e d0 (σ.memory.result d0) r
  pub not_undecided : r ≢ undecided
  pub installable : σ.memory.word (σ.memory.fields d0).p1 ≡ descriptor d0 → Installable r
  pub mark_gone : (x : ℕ) → WonBy x (σ.memory.result d0) → (Succeeded (σ.memory.result d0) → σ.memory.word (σ.memory.fields d0).p2 ≢ mark d0 x) → Succeeded r → σ.memory.word (σ.memory.fields d0).p2 ≢ mark d0 x
  pub others_required : (t : ℕ) → t ≢ s → Required σ.memory t (σ.at t) d0 r

-- what an update did not write was there before
was_before : (f : ℕ → Word) (p a : ℕ) (v w : Word) → v ≢ w → update f p v a ≡ w → f a ≡ w
was_before f p a v w h q = grind arith

-- where no mark of s is new, nothing more is required of s
pub required_on : (m m' : Memory) (s : ℕ) (c : Position) (d : ℕ) (r : Outcome) → (m'.word (m'.fields d).p2 ≡ mark d s → m.word (m.fields d).p2 ≡ mark d s) → m'.owner d ≡ m.owner d → Required m s c d r → Required m' s c d r
required_on m m' s c d r f o w = grind arith

-- d0, once published, requires nothing of those that are not its owner
publish_required : (m : Memory) (d0 t : ℕ) (c : Position) (d : ℕ) → m.word (m.fields d0).p2 ≢ mark d0 t → m.owner d0 ≢ scanner t → Required m t c d (m.result d) → Required (publish m d0) t c d (update m.result d0 undecided d)
publish_required m d0 t c d n o w = grind arith

module _ (s : ℕ) (σ : State) (inv : Invariant σ) where
  abbrev m : Memory
  m = σ.memory

  pub write_effect : {e : Event} {c0 : Position} (p : ℕ) (v : Word) → Writes s c0 m p v → Effect e s c0 σ (write m p v)
  write_effect p v writes =
      record {
        rely =
            record {
              later = λ d. same;
              kept = λ d l.
                  record {
                    same_fields = refl;
                    first_gone = λ h q. let n = writes.no_descriptor d in grind arith;
                    second_gone = λ x z h q. h (was_before m.word p (m.fields d).p2 v (mark d x) (λ q. let n = writes.own_mark d x q in z n.0 n.1) q);
                    freed = λ x z c f dn q. f dn (was_before m.word p (m.fields d).p2 v (mark d x) (λ q. let n = writes.own_mark d x q in z n.0 n.1) q);
                    stays = λ x u q. let n = writes.free_second d x u in grind arith;
                  };
              unpublished = λ t d h k. k;
            };
        sound =
            record {
              in_place = λ a. let old = inv.sound.in_place a in let new = writes.fits in grind arith;
              installed = λ d u. let old = inv.sound.installed d u in let n = writes.free_first d u in grind arith;
            };
        owned = inv.owned;
        required = λ t d h. required_on m (write m p v) t (σ.at t) d (m.result d) (was_before m.word p (m.fields d).p2 v (mark d t) (λ q. h (writes.own_mark d t q).0)) refl (inv.required t d);
      }

  pub set_result_effect : {e : Event} {c0 : Position} (d0 : ℕ) (r : Outcome) → SetsResult e s σ d0 r → Effect e s c0 σ (set_result m d0 r)
  set_result_effect {e} {c0} d0 r z =
      record {
        rely =
            record {
              later = update_all (λ d q. Later e d (m.result d) q) m.result d0 r z.step (λ d _. same);
              kept = λ d l.
                  record {
                    same_fields = refl;
                    first_gone = λ h. h;
                    second_gone = λ x _ h. h;
                    freed = λ x _ c f dn q. let n = z.mark_gone x in grind arith;
                    stays = λ x u q. q;
                  };
              unpublished = λ t d h k. let l = z.live in grind arith;
            };
        sound =
            record {
              in_place = λ a. let old = inv.sound.in_place a in let installable = z.installable in let l = z.live in let r_live = later_live z.step l in grind arith;
              installed = λ d u. let old = inv.sound.installed d in let n = z.not_undecided in grind arith;
            };
        owned = λ d l. let old = inv.owned d in let was = inv.owned d0 z.live in grind arith;
        required = λ t d h. let old = inv.required t d in let new = z.others_required t h in grind arith;
      }

  module _ (d0 : ℕ) (k0 : Knows m s (at_publish d0)) where
    pub no_mark : (t : ℕ) → m.word (m.fields d0).p2 ≢ mark d0 t
    no_mark t q = let p = inv.sound.in_place (m.fields d0).p2 in grind arith

    pub publish_effect : {e : Event} {c0 : Position} (n : ℕ) → m.word (m.fields d0).p1 ≡ plain n → Effect e s c0 σ (publish m d0)
    publish_effect {e} {c0} n old =
        record {
          rely =
              record {
                later = update_all (λ d q. Later e d (m.result d) q) m.result d0 undecided (subst (λ r. Later e d0 r undecided) (sym k0.0) publishes) (λ d _. same);
                kept = λ d l.
                    record {
                      same_fields = refl;
                      first_gone = λ h q. grind arith;
                      second_gone = λ x _ h q. grind arith;
                      freed = λ x _ c f dn q. grind arith;
                      stays = λ x u q. grind arith;
                    };
                unpublished = λ t d h k. grind arith;
              };
          sound =
              record {
                in_place = λ a. let p = inv.sound.in_place a in grind arith;
                installed = λ d u. let p = inv.sound.installed d in grind arith;
              };
          owned = λ d l. let old = inv.owned d in grind arith;
          required = λ t d h. publish_required m d0 t (σ.at t) d (no_mark t) (λ q. h (cc)) (inv.required t d);
        }

  module _ (d0 : ℕ) (o : Fields) (f0 : m.result d0 ≡ fresh) where
    pub prepare_effect : {e : Event} {c0 : Position} → Takes s (m.owner d0) → Effect e s c0 σ (prepare m s d0 o)
    prepare_effect {e} {c0} take =
        record {
          rely =
              record {
                later = λ d. same;
                kept = λ d l.
                    record {
                      same_fields = grind arith;
                      first_gone = λ h q. grind arith;
                      second_gone = λ x _ h q. grind arith;
                      freed = λ x _ c f dn q. let h = f dn in grind arith;
                      stays = λ x u q. grind arith;
                    };
                unpublished = λ t d h k. grind arith;
              };
          sound =
              record {
                in_place = λ a. let p = inv.sound.in_place a in grind arith;
                installed = λ d u. let p = inv.sound.installed d u in grind arith;
              };
          owned = λ d l. let old = inv.owned d in grind arith;
          required = λ t d h. let p = inv.required t d in grind arith;
        }
