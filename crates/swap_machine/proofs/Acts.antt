-- Every step of a scanner keeps the invariant.
use Rattle.std.proofs.Common.{◌≡◌, refl, sym, ◌∙◌, true, ◌≢◌, ℕ, arith}
use Rattle.swap_machine.specs.Update.{update}
use Rattle.swap_machine.specs.Machine.{Word, plain, descriptor, mark, Outcome, fresh, undecided, failed, won, success, Memory, Position, idle, at_publish, at_place_mark, at_finish_first, at_finish_second, at_write_success, State, write, publish, Event, Cas, hit, miss, Act}
use Rattle.swap_machine.specs.Machine.{swap, start, meet_descriptor, meet_mark, publish_hit, publish_miss, read_open, read_closed, clean_descriptor, clean_mark, place_hit, place_miss, re_read_mark, re_read_other, fail_undecided, fail_failed, fail_won, fail_success, give_back_go, decide_wins, decide_won, decide_late, decide_ended, finish_first_go, finish_second_go, write_success_go, withdraw_go}
use Rattle.swap_machine.specs.Positions.{Finishing, AboutToPlace, FinishingFor}
use Rattle.swap_machine.specs.Invariant.{WonBy, Knows, Required, Invariant}
use Rattle.swap_machine.specs.Safety.{Later, same, fails, wins, finishes}
use Rattle.swap_machine.proofs.Basics.{later_won_by}
use Rattle.swap_machine.proofs.Stable.{Effect, Exclusive, Moves, won_by_live}
use Rattle.swap_machine.proofs.Effects.{no_write, write_effect, set_result_effect, publish_effect, prepare_effect, no_mark}

-- to write success, where a mark has won, is to write a later result
won_by_success : (e : Event) (d s : ℕ) (r : Outcome) → WonBy s r → Later e d r success
won_by_success e d s fresh f = absurd f
won_by_success e d s undecided f = absurd f
won_by_success e d s failed f = absurd f
won_by_success e d s (won x) f = finishes
won_by_success e d s success f = same

-- one whose mark has won is not about to place it
won_not_about : (m : Memory) (d r t f : ℕ) (c : Position) → m.result d ≡ won r → Required m t c d (m.result d) → AboutToPlace f c → d ≡ f → r ≡ t → ⊥
won_not_about m d r t f c e w h p q = grind arith

-- nor one whose mark is about to win
placed_not_about : (m : Memory) (d r t f : ℕ) (c : Position) → m.result d ≡ undecided → m.word (m.fields d).p2 ≡ mark d r → Required m t c d (m.result d) → AboutToPlace f c → d ≡ f → r ≡ t → ⊥
placed_not_about m d r t f c e u w h p q = grind arith

-- where another finishes for the mark of r, that mark has won
finishing_won_by : (m : Memory) (t d r : ℕ) (c : Position) → Knows m t c → FinishingFor d r c → WonBy r (m.result d)
finishing_won_by m t d r c k w = grind arith

-- one whose mark is about to win is there to finish
winner_finishes : (m : Memory) (d r t : ℕ) (c : Position) → m.result d ≡ undecided → m.word (m.fields d).p2 ≡ mark d r → Required m t c d (m.result d) → r ≡ t → Finishing d c
winner_finishes m d r t c e u w q = grind arith

-- the owner that has just published is in its own run
own_required : (m : Memory) (s d g : ℕ) → m.word (m.fields d).p2 ≢ mark d s → Required m s (at_publish d) g (m.result g) → Required (publish m d) s (at_place_mark d true) g (update m.result d undecided g)
own_required m s d g n w = grind arith

-- a plain word in place of another requires nothing more of anybody
write_required : (m : Memory) (s p n : ℕ) (c : Position) (d : ℕ) → Required m s c d (m.result d) → Required (write m p (plain n)) s c d (m.result d)
write_required m s p n c d w = grind arith

module _ (s : ℕ) (σ : State) (inv : Invariant σ) where
  abbrev m : Memory
  m = σ.memory

  -- a plain word may take the place of what is not of an undecided descriptor
  plain_effect : {e : Event} {c0 : Position} (p n : ℕ) → ((d : ℕ) → m.result d ≡ undecided → m.word p ≢ descriptor d) → ((d x : ℕ) → m.result d ≡ undecided → m.word p ≢ mark d x) → Effect e s c0 σ (write m p (plain n))
  plain_effect p n f g = write_effect s σ inv p (plain n) (record { fits = tt; no_descriptor = λ d q. grind arith; own_mark = λ d x q. grind arith; free_first = f; free_second = g })

  -- a compare-and-swap of such a thing for a plain word
  clear_effect : {e : Event} {c0 : Position} (p n : ℕ) (old : Word) {m' : Memory} → ((f : ℕ) → m.result f ≡ undecided → old ≢ descriptor f) → ((f x : ℕ) → m.result f ≡ undecided → old ≢ mark f x) → Cas m p old (plain n) m' → Effect e s c0 σ m'
  clear_effect p n old f g (hit q) = plain_effect p n (λ d u h. f d u (sym q ∙ h)) (λ d x u h. g d x u (sym q ∙ h))
  clear_effect p n old f g (miss _) = no_write s σ inv

  cas_required : (p n : ℕ) (old : Word) {m' : Memory} (c : Position) → Cas m p old (plain n) m' → ((d : ℕ) → Required m s c d (m.result d)) → (d : ℕ) → Required m' s c d (m'.result d)
  cas_required p n old c (hit e) w d = write_required m s p n c d (w d)
  cas_required p n old c (miss e) w d = w d

  cas_first_gone : (d n : ℕ) {m' : Memory} → Cas m (m.fields d).p1 (descriptor d) (plain n) m' → m'.word (m'.fields d).p1 ≢ descriptor d
  cas_first_gone d n (hit e) = λ h. grind arith
  cas_first_gone d n (miss e) = e

  cas_second_gone : (d t n : ℕ) {m' : Memory} → Cas m (m.fields d).p2 (mark d t) (plain n) m' → m'.word (m'.fields d).p2 ≢ mark d t
  cas_second_gone d t n (hit e) = λ h. grind arith
  cas_second_gone d t n (miss e) = e

  -- s goes to c with a write, and with none
  moves_with : {e : Event} {c0 : Position} {m' : Memory} {c : Position} → Effect e s c0 σ m' → Knows m' s c → Exclusive s σ c → ((d : ℕ) → Required m' s c d (m'.result d)) → Moves e s c0 σ m' c
  moves_with eff k z w = record { effect = eff; knows = k; exclusive = z; required = w }

  moves_only : {e : Event} {c0 c : Position} → Knows m s c → Exclusive s σ c → ((d : ℕ) → Required m s c d (m.result d)) → Moves e s c0 σ m c
  moves_only k z w = moves_with (no_write s σ inv) k z w

  pub acts : {c0 c : Position} {e : Event} {m' : Memory} → Act s m c0 e m' c → Knows m s c0 → ((t d : ℕ) → AboutToPlace d (σ.at t) → ¬ FinishingFor d t c0) → ((d : ℕ) → Required m s c0 d (m.result d)) → Moves e s c0 σ m' c
  acts (swap a x y e) k z w = moves_with (plain_effect a y (λ d u h. grind arith) (λ d t u h. grind arith)) tt (λ _ _ _. grind arith) (λ d. write_required m s a y idle d (w d))
  acts (start d o f take) k z w = moves_with (prepare_effect s σ inv d o f take) (grind arith) (λ _ _ _. grind arith) (λ g. let x = w g in grind arith)
  acts (meet_descriptor a d e) k z w = moves_only (let p = inv.sound.in_place a in grind arith) (λ _ _ _. grind arith) w
  acts (meet_mark a d t e) k z w = moves_only (let p = inv.sound.in_place a in grind arith) (λ _ _ _. grind arith) w
  acts (publish_hit {d} e) k z w =
      moves_with (publish_effect s σ inv d k _ e) (grind arith)
      (λ t f _. (λ h x. let c = finishing_won_by m t f s (σ.at t) (inv.knows t) x in grind arith, λ _ h. h))
      (λ g. own_required m s d g (no_mark s σ inv d k s) (w g))
  acts (publish_miss {d} e) k z w = moves_only tt (λ _ _ _. grind arith) w
  acts (read_open {d} {via} op) k z w =
      moves_only k
      (λ t f _. (λ h x. let c = finishing_won_by m t f s (σ.at t) (inv.knows t) x in let y = w d in grind arith, λ _ h. h))
      (λ g. let x = w g in grind arith)
  acts (read_closed {d} {via} h) k z w = moves_only h (λ _ _ _. grind arith) w
  acts (clean_descriptor {d} cas) k z w = moves_with (clear_effect _ _ _ (λ f u q. grind arith) (λ f x u q. grind arith) cas) tt (λ _ _ _. grind arith) (cas_required _ _ _ idle cas w)
  acts (clean_mark {d} {t} cas) k z w = moves_with (clear_effect _ _ _ (λ f u q. grind arith) (λ f x u q. grind arith) cas) tt (λ _ _ _. grind arith) (cas_required _ _ _ idle cas w)
  acts (place_hit {d} {own} e) k z w =
      moves_with
      (write_effect s σ inv (m.fields d).p2 (mark d s)
      (record {
        fits = (refl, k);
        no_descriptor = λ f q. grind arith;
        own_mark = λ f x q. (cc, cc);
        free_first = λ f u q. grind arith;
        free_second = λ f x u q. grind arith;
      }))
      (k, λ _. grind arith, λ _. refl) (λ _ _ _. grind arith) (λ g. let x = w g in grind arith)
  acts (place_miss {d} {own} e) k z w = moves_only k (λ _ _ _. grind arith) w
  acts (re_read_mark {d} {own} t e) k z w = moves_only (k, λ _. e, λ h. grind arith) (λ _ _ _. grind arith) (λ g. let x = w g in grind arith)
  acts (re_read_other {d} {own} h) k z w = moves_only k (λ _ _ _. grind arith) w
  acts (fail_undecided {d} {own} e) k z w =
      moves_with
      (set_result_effect s σ inv d failed
      (record {
        live = k;
        step = rw e fails;
        not_undecided = λ q. grind arith;
        installable = λ _. tt;
        mark_gone = λ x c f dn. absurd dn;
        others_required = λ t h. tt;
      }))
      (grind arith) (λ _ _ _. grind arith) (λ g. let x = w g in grind arith)
  acts (fail_failed {d} {own} e) k z w = moves_only (grind arith) (λ _ _ _. grind arith) (λ g. let x = w g in grind arith)
  acts (fail_won {d} {own} r e) k z w =
      moves_only (grind arith) (λ t f _. (λ h. absurd h, λ h x. won_not_about m d r t f (σ.at t) e (inv.required t d) h x.0 x.1)) (λ g. let x = w g in grind arith)
  acts (fail_success {d} {own} e) k z w = moves_only tt (λ _ _ _. grind arith) (λ g. let x = w g in grind arith)
  acts (give_back_go {d} {own} cas) k z w = moves_with (clear_effect _ _ _ (λ f u q. grind arith) (λ f x u q. grind arith) cas) tt (λ _ _ _. grind arith) (cas_required _ _ _ idle cas w)
  acts (decide_wins {d} {t} {own} {placed} e) k z w =
      let here = k.1 e in
      moves_with
      (set_result_effect s σ inv d (won t)
      (record {
        live = k.0;
        step = rw e (wins refl);
        not_undecided = λ q. grind arith;
        installable = λ _. tt;
        mark_gone = λ x c f dn. absurd dn;
        others_required = λ x _ q. winner_finishes m d t x (σ.at x) e here (inv.required x d) q;
      }))
      (grind arith)
      (λ x f _. (λ h. absurd h, λ h y. placed_not_about m d t x f (σ.at x) e here (inv.required x d) h y.0 y.1))
      (λ g. let x = w g in grind arith)
  acts (decide_won {d} {t} {own} {placed} r e) k z w =
      moves_only (grind arith) (λ t f _. (λ h. absurd h, λ h x. won_not_about m d r t f (σ.at t) e (inv.required t d) h x.0 x.1)) (λ g. let x = w g in grind arith)
  acts (decide_late {d} {t} {own} ok e) k z w = moves_only e (λ _ _ _. grind arith) (λ g. let x = w g in grind arith)
  acts (decide_ended {d} {t} {own} ok e) k z w = moves_only tt (λ _ _ _. grind arith) (λ g. let x = w g in grind arith)
  acts (finish_first_go {d} {t = r} {own} cas) k z w =
      let eff = clear_effect {c0 = at_finish_first d own r} _ _ _ (λ f u q. grind arith) (λ f x u q. grind arith) cas in
      let q = eff.rely.kept d (won_by_live r _ k.0) in
      moves_with eff (later_won_by r (eff.rely.later d) k.0, q.freed r (λ _ h. h) k.0 k.1, cas_first_gone d _ cas)
      (λ t f _. (λ h. absurd h, z t f))
      (cas_required _ _ _ (at_finish_second d own r) cas w)
  acts (finish_second_go {d} {t = r} {own} cas) k z w =
      let eff = clear_effect {c0 = at_finish_second d own r} _ _ _ (λ f u q. grind arith) (λ f x u q. grind arith) cas in
      let q = eff.rely.kept d (won_by_live r _ k.0) in
      moves_with eff (later_won_by r (eff.rely.later d) k.0, cas_second_gone d r _ cas, q.first_gone k.2)
      (λ t f _. (λ h. absurd h, z t f))
      (cas_required _ _ _ (at_write_success d own r) cas w)
  acts (write_success_go {d} {t = r} {own}) k z w =
      moves_with
      (set_result_effect s σ inv d success
      (record {
        live = won_by_live r _ k.0;
        step = won_by_success _ d r _ k.0;
        not_undecided = λ q. grind arith;
        installable = λ q. k.2 q;
        mark_gone = λ x c f dn q. grind arith;
        others_required = λ t h. tt;
      }))
      tt (λ _ _ _. grind arith) (λ g. let x = w g in grind arith)
  acts (withdraw_go {d} {own} {ok} cas) k z w = moves_with (clear_effect _ _ _ (λ f u q. grind arith) (λ f x u q. grind arith) cas) tt (λ _ _ _. grind arith) (cas_required _ _ _ idle cas w)
