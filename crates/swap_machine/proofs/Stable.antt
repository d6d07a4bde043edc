-- What a scanner knows still holds after a step of another: all that such a step does is a `Rely`.
use Rattle.std.proofs.Common.{◌≡◌, refl, false, ◌≢◌, ℕ, arith}
use Rattle.swap_machine.specs.Update.{update}
use Rattle.swap_machine.specs.Machine.{descriptor, mark, Outcome, undecided, Memory, Position, idle, at_publish, at_read_result, at_clean, at_place_mark, at_re_read, at_try_fail, at_give_back, at_decide, at_finish_first, at_finish_second, at_write_success, at_withdraw, State, Event}
use Rattle.swap_machine.specs.Positions.{AboutToPlace, FinishingFor}
use Rattle.swap_machine.specs.Invariant.{Live, Has, WonBy, Succeeded, Sound, Knows, Required, Invariant}
use Rattle.swap_machine.specs.Safety.{Later}
use Rattle.swap_machine.proofs.Basics.{update_all, later_live, later_closed, later_ended, later_won_by, later_undecided}

-- what a step of s at c0 may do to a published descriptor, whose result is then r
pub record Kept (s : ℕ) (c0 : Position) (m m' : Memory) (d : ℕ) (r : Outcome) : Type 0 where
  pub same_fields : m'.fields d ≡ m.fields d
  pub first_gone : m.word (m.fields d).p1 ≢ descriptor d → m'.word (m'.fields d).p1 ≢ descriptor d
  pub second_gone : (x : ℕ) → (x ≡ s → ¬ AboutToPlace d c0) → m.word (m.fields d).p2 ≢ mark d x → m'.word (m'.fields d).p2 ≢ mark d x
  pub freed : (x : ℕ) → (x ≡ s → ¬ AboutToPlace d c0) → WonBy x (m.result d) → (Succeeded (m.result d) → m.word (m.fields d).p2 ≢ mark d x) → Succeeded r → m'.word (m'.fields d).p2 ≢ mark d x
  pub stays : (x : ℕ) → r ≡ undecided → m.word (m.fields d).p2 ≡ mark d x → m'.word (m'.fields d).p2 ≡ mark d x

-- what a step of scanner s from c0 with event e may do
pub record Rely (e : Event) (s : ℕ) (c0 : Position) (m m' : Memory) : Type 0 where
  pub later : (d : ℕ) → Later e d (m.result d) (m'.result d)
  pub kept : (d : ℕ) → Live (m.result d) → Kept s c0 m m' d (m'.result d)
  pub unpublished : (t d : ℕ) → t ≢ s → Knows m t (at_publish d) → Knows m' t (at_publish d)

pub won_by_live : (s : ℕ) (r : Outcome) → WonBy s r → Live r
won_by_live s r h = grind arith

module _ (e : Event) (s : ℕ) (c0 : Position) (m m' : Memory) (rely : Rely e s c0 m m') (t : ℕ) (other : t ≢ s) where
  -- one that finishes for the mark of r knows that the scanner of the step, if it is r, is not about to place it
  not_about : (d r : ℕ) → (AboutToPlace d c0 → ¬ ((d ≡ d) × (r ≡ s))) → r ≡ s → ¬ AboutToPlace d c0
  not_about d r w e h = w h (refl, e)

  pub stable : (c : Position) → ((d : ℕ) → AboutToPlace d c0 → ¬ FinishingFor d s c) → Knows m t c → Knows m' t c
  stable idle w k = tt
  stable (at_publish d) w k = rely.unpublished t d other k
  stable (at_read_result d v) w k = later_live (rely.later d) k
  stable (at_clean d v) w k = later_closed (rely.later d) k
  stable (at_place_mark d own) w k = later_live (rely.later d) k
  stable (at_re_read d own) w k = later_live (rely.later d) k
  stable (at_try_fail d own) w k = later_live (rely.later d) k
  stable (at_give_back d own) w k = later_ended false (rely.later d) k
  stable (at_decide d own x placed) w k = (
    later_live (rely.later d) k.0,
    λ u. (rely.kept d k.0).stays x u (k.1 (later_undecided (rely.later d) k.0 u)),
    k.2,
  )
  stable (at_finish_first d own r) w k =
      let q = rely.kept d (won_by_live r _ k.0) in
      (later_won_by r (rely.later d) k.0, q.freed r (not_about d r (w d)) k.0 k.1)
  stable (at_finish_second d own r) w k =
      let q = rely.kept d (won_by_live r _ k.0) in
      (later_won_by r (rely.later d) k.0, q.freed r (not_about d r (w d)) k.0 k.1, q.first_gone k.2)
  stable (at_write_success d own r) w k =
      let q = rely.kept d (won_by_live r _ k.0) in
      (later_won_by r (rely.later d) k.0, q.second_gone r (not_about d r (w d)) k.1, q.first_gone k.2)
  stable (at_withdraw d own ok) w k = later_ended ok (rely.later d) k

-- what one step of scanner s from c0 leaves to the others
pub record Effect (e : Event) (s : ℕ) (c0 : Position) (σ : State) (m' : Memory) : Type 0 where
  pub rely : Rely e s c0 σ.memory m'
  pub sound : Sound m'
  pub required : (t d : ℕ) → t ≢ s → Required m' t (σ.at t) d (m'.result d)
  pub owned : (d : ℕ) → Live (m'.result d) → Has (m'.owner d)

-- at c, s is not about to place a mark for which another finishes, and does not finish for a mark that another is about to place
abbrev pub Exclusive : ℕ → State → Position → Type 0
Exclusive s σ c = (t d : ℕ) → t ≢ s → (AboutToPlace d c → ¬ FinishingFor d s (σ.at t)) × (AboutToPlace d (σ.at t) → ¬ FinishingFor d t c)

-- and what s itself knows, and what is required of it, at its new position c
pub record Moves (e : Event) (s : ℕ) (c0 : Position) (σ : State) (m' : Memory) (c : Position) : Type 0 where
  pub effect : Effect e s c0 σ m'
  pub knows : Knows m' s c
  pub exclusive : Exclusive s σ c
  pub required : (d : ℕ) → Required m' s c d (m'.result d)

not_both : (d r : ℕ) (c : Position) → AboutToPlace d c → ¬ FinishingFor d r c
not_both d r c h w = grind arith

pub moved : (e : Event) (s : ℕ) (σ : State) (m' : Memory) (c : Position) → Invariant σ → Moves e s (σ.at s) σ m' c → Invariant (record { memory = m'; at = update σ.at s c })
moved e s σ m' c inv mv =
    record {
      sound = mv.effect.sound;
      knows =
          update_all (Knows m') σ.at s c mv.knows
          (λ t h. stable e s (σ.at s) σ.memory m' mv.effect.rely t h (σ.at t) (λ d. inv.exclusive s t d) (inv.knows t));
      exclusive = λ a b d.
          update_all (λ a x. AboutToPlace d x → ¬ FinishingFor d a (update σ.at s c b)) σ.at s c
          (update_all (λ b y. AboutToPlace d c → ¬ FinishingFor d s y) σ.at s c (not_both d s c) (λ b h. (mv.exclusive b d h).0) b)
          (λ a h. update_all (λ b y. AboutToPlace d (σ.at a) → ¬ FinishingFor d a y) σ.at s c (mv.exclusive a d h).1 (λ b _. inv.exclusive a b d) b)
          a;
      owned = mv.effect.owned;
      required = update_all (λ t c. (d : ℕ) → Required m' t c d (m'.result d)) σ.at s c mv.required (λ t h d. mv.effect.required t d h);
    }
