-- The theorems.
use Rattle.std.proofs.Common.{Some, ◌≡◌, ℕ, ◌+◌, Bool, true, false, ◌≢◌, List, Ok, Err, Result, sym, refl, ap, ◌∙◌, subst, inl, inr, arith}
use native.Mathlib.Decide.{ℕ_discrete}
use Rattle.refusals.specs.declared.refusal.Refusal.{Refusal}
use Rattle.words.specs.Words.{told}
use Rattle.memory.specs.Seen.{Seen}
use Rattle.memory.specs.Reads.{on_ok, word_at}
use Rattle.memory.specs.Meaning.{outcome_of}
use Rattle.swap_access.specs.declared.effect.Write.TheVariants.{Word as WordWrite}
use Rattle.swap_access.specs.declared.position.Met.TheVariants.{Descriptor as by_descriptor, Mark as by_mark}
use Rattle.swap_access.specs.declared.position.Position.{Position as CodePosition}
use Rattle.swap_access.specs.declared.position.Position.TheVariants.{Publish, ReadResult}
use Rattle.swap_step.specs.Steps.{written, left_by}
use Rattle.swap_machine.specs.Update.{update}
use Rattle.swap_machine.specs.Machine.{plain, Owner, nobody, scanner, Takes, Memory, idle, at_publish, Event, silent, swapped, write, Act, Step, wait, act, swap, start, meet_descriptor, meet_mark}
use Rattle.swap_machine.specs.Invariant.{Live, Invariant}
use Rattle.swap_machine.specs.Safety.{Orderly, Safe, Initial, Run, begin as begin_run, then as then_run}
use Rattle.swap_bridge.specs.Systems.{Standing, resting, working, System}
use Rattle.swap_bridge.specs.Abstraction.{meaning, word_read, or_zero, outcome, fields_of, memory_of, place_of, abstracted}
use Rattle.swap_bridge.specs.Valid.{Proper, Stands, Valid}
use Rattle.swap_bridge.specs.Does.{swap_of, event_of, going, after, filled, grown, Does, waits, steps, swaps, takes_node, prepares, meets_descriptor, meets_mark, Runs, begin, then}
use Rattle.swap_bridge.specs.Theorems.{CodeIsTheMachine, Begins, SystemIsSafe}
use Rattle.swap_bridge.proofs.Words.{told_mark_fits}
use Rattle.swap_bridge.proofs.Tables.{grown_before, filled_here, filled_there}
use Rattle.swap_bridge.proofs.Accesses.{plain_known, plain_means}
use Rattle.swap_bridge.proofs.Memories.{upd_same, upd_other, updated, word_memory, grown_memory, prepare_memory}
use Rattle.swap_bridge.proofs.Moves.{Moves, moves}
use Rattle.swap_bridge.proofs.Meanings.{stands_for_same, published_seen}
use Rattle.swap_bridge.proofs.Keeps.{Kept, keeps_write, keeps_grown, filled_rooms, filled_known, filled_proper, filled_others, stands_kept, kept_prepared, about_to_publish, moved_stands, going_stands}

-- a descriptor that s may take is no other scanner's
taker : (s u : ℕ) (o : Owner) → Takes s o → o ≡ scanner u → u ≡ s
taker s u nobody t q = grind arith
taker s u (scanner x) t q = cc

module _ (safe : Safe) (σ : System) (v : Valid σ) (inv : Invariant (abstracted σ)) where
  abbrev m : Seen
  m = σ.tables

  abbrev mem : Memory
  mem = (abstracted σ).memory

  -- what a scanner does, as a step of the machine
  step_to : (s : ℕ) (w : Standing) {e : Event} (mem' : Memory) → Act s mem (place_of (σ.standing s)) e mem' (place_of w) → Step (abstracted σ) e (record { memory = mem'; at = λ t. place_of (update σ.standing s w t) })
  step_to s w {e} mem' a =
      subst (λ f. Step (abstracted σ) e (record { memory = mem'; at = f }))
      (sym (updated (λ t. place_of (σ.standing t)) (λ t. place_of (update σ.standing s w t)) s (place_of w) (ap place_of (upd_same σ.standing s w s refl)) (λ t h. ap place_of (upd_other σ.standing s w t h))))
      (act s a)

  -- a scanner acts from where it stands
  from : (s : ℕ) (w w' : Standing) {e : Event} (mem' : Memory) → σ.standing s ≡ w → Act s mem (place_of w) e mem' (place_of w') → Act s mem (place_of (σ.standing s)) e mem' (place_of w')
  from s w w' {e} mem' q a = subst (λ y. Act s mem (place_of y) e mem' (place_of w')) (sym q) a

  others : (m' : Seen) → Kept m m' σ.published → (t : ℕ) → Stands m' t (σ.standing t)
  others m' k t = stands_kept m m' mem t (λ d h. kept_prepared k d h.0) (σ.standing t) (inv.knows t) (v.stands t)

  valid_after : (s : ℕ) (own : Bool) (p : CodePosition) → σ.standing s ≡ working own p → (mv : Moves σ s own p) → Valid (after σ s own p mv.effect)
  valid_after s own p e mv =
      let k = keeps_write m σ.published v.rooms v.words mv.effect.write mv.writes_well in
      let a = from s (working own p) (going own mv.effect.next) _ e mv.acts in
      let o : Orderly s mem (place_of (σ.standing s)) _ _ _ = safe.orderly (abstracted σ) s _ _ _ inv a in
      let h : Stands m s (working own p) = subst (Stands m s) e (v.stands s) in
      record {
        rooms = k.rooms;
        words = k.words;
        live = λ d l. k.proper d (elim (o.live_before d l) [ inl y ↦ v.live d y | inr y ↦ about_to_publish m s d (σ.standing s) y.1 (v.stands s) ]);
        stands = moved_stands (written mv.effect.write m) σ.standing s (going own mv.effect.next) (going_stands (written mv.effect.write m) s own mv.effect.next h.0 mv.goes_well) (λ t n. others (written mv.effect.write m) k t);
      }

  pub does_step : {e : Event} {τ : System} → Does σ e τ → Step (abstracted σ) e (abstracted τ) × Valid τ
  does_step waits = (wait, v)
  does_step (steps s own p f st dc) =
      let mv = moves σ v inv s own p st in
      let q : mv.effect ≡ f = let r : Ok mv.effect ≡ Ok f = sym mv.computes ∙ dc in cc in
      subst (λ g. Step (abstracted σ) (event_of (swap_of p) g.write g.next) (abstracted (after σ s own p g)) × Valid (after σ s own p g)) q
      (step_to s (going own mv.effect.next) _ (from s (working own p) (going own mv.effect.next) _ st mv.acts), valid_after s own p st mv)
  does_step (swaps s a x y st e px py) =
      let k = keeps_write m σ.published v.rooms v.words (Some (WordWrite a y)) ((x, e), plain_known m y v.rooms py) in
      let q : memory_of (written (Some (WordWrite a y)) m) σ.published σ.owner ≡ write mem a (plain y) = word_memory m σ.published σ.owner a y (x, e) ∙ ap (write mem a) (plain_means m y v.rooms py) in
      (step_to s resting _ (from s resting resting _ st (subst (λ z. Act s mem idle (swapped a x y) z idle) (sym q) (swap a x y (ap word_read e ∙ plain_means m x v.rooms px)))), record { rooms = k.rooms; words = k.words; live = λ d l. k.proper d (v.live d l); stands = moved_stands (written (Some (WordWrite a y)) m) σ.standing s resting tt (λ t n. others (written (Some (WordWrite a y)) m) k t) })
  does_step (takes_node s x st h px) =
      let k = keeps_grown m σ.published x v.rooms v.words h px in
      let q : memory_of (grown m x) σ.published σ.owner ≡ write mem (64 + (m.nodes_taken + 1)) (plain x.next) = grown_memory m σ.published σ.owner x h v.rooms.nodes ∙ ap (write mem (64 + (m.nodes_taken + 1))) (plain_means m x.next v.rooms px) in
      (step_to s resting _ (from s resting resting _ st (subst (λ z. Act s mem idle (swapped (64 + (m.nodes_taken + 1)) 0 x.next) z idle) (sym q) (swap (64 + (m.nodes_taken + 1)) 0 x.next (ap word_read (grown_before m h v.rooms.nodes))))), record { rooms = k.rooms; words = k.words; live = λ d l. k.proper d (v.live d l); stands = moved_stands (grown m x) σ.standing s resting tt (λ t n. others (grown m x) k t) })
  does_step (meets_descriptor s a w d st low e te) =
      (step_to s (working false (ReadResult d by_descriptor)) _ (from s resting (working false (ReadResult d by_descriptor)) _ st (meet_descriptor a d (ap word_read e ∙ ap meaning te))), record { rooms = v.rooms; words = v.words; live = v.live; stands = moved_stands m σ.standing s (working false (ReadResult d by_descriptor)) (low, (refl, tt), tt) (λ t n. v.stands t) })
  does_step (meets_mark s a w d u st low e te) =
      (step_to s (working false (ReadResult d (by_mark u))) _ (from s resting (working false (ReadResult d (by_mark u))) _ st (meet_mark a d u (ap word_read e ∙ ap meaning te))), record { rooms = v.rooms; words = v.words; live = v.live; stands = moved_stands m σ.standing s (working false (ReadResult d (by_mark u))) (low, (refl, told_mark_fits w u d te), tt) (λ t n. v.stands t) })
  does_step (prepares s d x st low may) =
      let l = may.low in
      let k = may.next in
      let h = may.room in
      let t = may.task in
      let r1 = may.no_result in
      let q = prepare_memory m σ.published σ.owner s d x l k h may.unused may.unpublished r1 in
      let here = filled_here m d x l h in (
        step_to s (working true (Publish d)) _ (from s resting (working true (Publish d)) _ st (subst (λ z. Act s mem idle silent z (at_publish d)) (sym q) (start d (fields_of x) may.unused may.takes))),
        record {
          rooms = filled_rooms m d x l k h v.rooms;
          words = filled_known m d x l k h v.words;
          live =
              λ g lv.
              elim (ℕ_discrete g d) [
                | yes z ↦ subst (Proper (filled m d x)) (sym z) (filled_proper m d x l k h t)
                | no n ↦ filled_others m d x l k h g n (v.live g (subst Live (ap (λ y. outcome (σ.published g) (outcome_of g (or_zero y).result)) (filled_there m d g x l k n)) lv))
              ];
          stands =
              moved_stands (filled m d x) σ.standing s (working true (Publish d)) (low, refl, (filled_proper m d x l k h t, ap (λ y. outcome_of d (or_zero y).result) here ∙ ap (outcome_of d) r1))
              (λ u n.
              stands_kept m (filled m d x) mem u
              (λ g kn pp.
              let ne : g ≢ d = λ z. n (taker s u (σ.owner d) may.takes (ap σ.owner (sym z) ∙ kn.1)) in
              (filled_others m d x l k h g ne pp.0, ap (λ y. outcome_of g (or_zero y).result) (filled_there m d g x l k ne) ∙ pp.1))
              (σ.standing u) (inv.knows u) (v.stands u));
        },
      )

pub machine : Safe → CodeIsTheMachine
machine safe =
    record {
      is_the_step = λ m s p f e. (ap (λ r. on_ok r (λ g. Ok g.next)) e, ap (λ r. left_by r m) e);
      never_torn = λ σ v inv s own p e. let mv = moves σ v inv s own p e in (mv.effect, mv.computes);
      simulates = λ σ τ e v inv d. does_step safe σ v inv d;
      stands_for_the_same = λ σ v inv a w e. stands_for_same σ v inv a w e;
      published_is_seen = λ σ v inv d u. published_seen σ inv d u;
    }

-- a beginning
begins_valid : (σ : System) → Begins σ → Valid σ
begins_valid σ g =
    record {
      rooms = g.rooms;
      words = λ a w e. plain_known σ.tables w g.rooms (g.plain_words a w e);
      live = λ d l. absurd (subst Live (g.all_fresh d) l);
      stands = λ s. subst (Stands σ.tables s) (sym (g.all_resting s)) tt;
    }

word_plain : (r : Result ℕ Refusal) → ((w : ℕ) → r ≡ Ok w → meaning (told w) ≡ plain w) → (n : ℕ) × (word_read r ≡ plain n)
word_plain (Ok w) f = (w, f w refl)
word_plain (Err e) f = (0, refl)

begins_initial : (σ : System) → Begins σ → Initial (abstracted σ)
begins_initial σ g =
    record {
      plain_words = λ a. word_plain (word_at σ.tables a) (λ w e. plain_means σ.tables w g.rooms (g.plain_words a w e));
      all_fresh = g.all_fresh;
      all_idle = λ s. ap place_of (g.all_resting s);
    }

runs_on : Safe → (σ : System) → Begins σ → {h : List Event} {τ : System} → Runs σ h τ → Valid τ × Invariant (abstracted τ) × Run (abstracted σ) h (abstracted τ)
runs_on safe σ g begin = (begins_valid σ g, safe.starts (abstracted σ) (begins_initial σ g), begin_run)
runs_on safe σ g (then {h} {τ} {υ} {e} r d) =
    let p = runs_on safe σ g r in
    let q = does_step safe τ p.0 p.1 d in
    (q.1, safe.keeps (abstracted τ) (abstracted υ) e p.1 q.0, then_run p.2 q.0)

pub system : Safe → SystemIsSafe
system safe =
    record {
      initial = begins_initial;
      holds = λ σ h τ g r. runs_on safe σ g r;
      good = λ σ h τ g r υ e d. let p = runs_on safe σ g r in safe.good (abstracted τ) (abstracted υ) e p.1 (does_step safe τ p.0 p.1 d).0;
      never_torn = λ σ h τ g r s own p w. let k = runs_on safe σ g r in let mv = moves τ k.0 k.1 s own p w in (mv.effect, mv.computes);
      succeeds = λ σ h τ υ g r d w. let p = runs_on safe σ g r in safe.succeeds (abstracted σ) h (abstracted τ) (abstracted υ) (begins_initial σ g) p.2 d (does_step safe τ p.0 p.1 w).0;
      second_fails = λ σ h τ υ g r d w. let p = runs_on safe σ g r in safe.second_fails (abstracted σ) h (abstracted τ) (abstracted υ) (begins_initial σ g) p.2 d (does_step safe τ p.0 p.1 w).0;
      first_fails = λ σ h τ υ g r d w. let p = runs_on safe σ g r in safe.first_fails (abstracted σ) h (abstracted τ) (abstracted υ) (begins_initial σ g) p.2 d (does_step safe τ p.0 p.1 w).0;
    }
