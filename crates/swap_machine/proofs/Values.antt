-- What each step does to what the addresses stand for.
use Rattle.std.proofs.Common.{◌≡◌, refl, sym, ◌∙◌, ap, Bool, false, ◌≢◌, ℕ, arith}
use Rattle.swap_machine.specs.Update.{update}
use Rattle.swap_machine.specs.Machine.{Word, plain, descriptor, mark, fresh, undecided, failed, won, success, Fields, Memory, Position, State, Closed, Ended, write, set_result, prepare, publish, Event, Cas, hit, miss, Act}
use Rattle.swap_machine.specs.Machine.{swap, start, meet_descriptor, meet_mark, publish_hit, publish_miss, read_open, read_closed, clean_descriptor, clean_mark, place_hit, place_miss, re_read_mark, re_read_other, fail_undecided, fail_failed, fail_won, fail_success, give_back_go, decide_wins, decide_won, decide_late, decide_ended, finish_first_go, finish_second_go, write_success_go, withdraw_go}
use Rattle.swap_machine.specs.Invariant.{Installable, WonBy, Succeeded, InPlace, Knows, Required, Invariant}
use Rattle.swap_machine.specs.Meaning.{first_value, second_value, value, stands_for, taken, Same, Says, Decides}
use Rattle.swap_machine.proofs.Basics.{update_same}

-- one address at a time
write_same : (m : Memory) (p : ℕ) (v : Word) → value m v ≡ stands_for m p → Same m (write m p v)
write_same m p v e a = grind arith

write_new : (m : Memory) (p y b : ℕ) → stands_for (write m p (plain y)) b ≡ update (stands_for m) p y b
write_new m p y b = grind arith

prepare_same : (m : Memory) (s d : ℕ) (o : Fields) (a : ℕ) → InPlace m a (m.word a) → m.result d ≡ fresh → stands_for (prepare m s d o) a ≡ stands_for m a
prepare_same m s d o a p f = grind arith

publish_same : (m : Memory) (d a : ℕ) → m.result d ≡ fresh → m.word (m.fields d).p1 ≡ plain (m.fields d).o1 → stands_for (publish m d) a ≡ stands_for m a
publish_same m d a f e = grind arith

fail_same : (m : Memory) (d a : ℕ) → m.result d ≡ undecided → stands_for (set_result m d failed) a ≡ stands_for m a
fail_same m d a e = grind arith

success_same : (m : Memory) (d r a : ℕ) → InPlace m a (m.word a) → WonBy r (m.result d) → m.word (m.fields d).p2 ≢ mark d r → stands_for (set_result m d success) a ≡ stands_for m a
success_same m d r a p c h = grind arith

decide_new : (m : Memory) (d t a : ℕ) → InPlace m a (m.word a) → m.result d ≡ undecided → m.word (m.fields d).p1 ≡ descriptor d → m.word (m.fields d).p2 ≡ mark d t → stands_for (set_result m d (won t)) a ≡ update (update (stands_for m) (m.fields d).p1 (m.fields d).n1) (m.fields d).p2 (m.fields d).n2 a
decide_new m d t a p e f g = grind arith

-- what the words of d stand for, by its result
old_first : (m : Memory) (d : ℕ) → Closed (m.result d) → Installable (m.result d) → (m.fields d).o1 ≡ value m (descriptor d)
old_first m d c h = grind arith

new_first : (m : Memory) (d t : ℕ) → WonBy t (m.result d) → (m.fields d).n1 ≡ value m (descriptor d)
new_first m d t c = grind arith

old_second : (m : Memory) (d t : ℕ) → m.result d ≢ won t → (m.fields d).o2 ≡ value m (mark d t)
old_second m d t c = grind arith

new_second : (m : Memory) (d t : ℕ) → WonBy t (m.result d) → ¬ Succeeded (m.result d) → (m.fields d).n2 ≡ value m (mark d t)
new_second m d t c h = grind arith

cas_same : (m : Memory) (p n : ℕ) (old : Word) {m' : Memory} → Cas m p old (plain n) m' → (m.word p ≡ old → n ≡ value m old) → Same m m'
cas_same m p n old (hit e) f = write_same m p (plain n) (f e ∙ ap (value m) (sym e))
cas_same m p n old (miss h) f = λ a. refl

cas_ended : (m : Memory) (b : Bool) (d p n : ℕ) (old : Word) {m' : Memory} → Cas m p old (plain n) m' → Ended b (m.result d) → Ended b (m'.result d)
cas_ended m b d p n old (hit e) h = h
cas_ended m b d p n old (miss e) h = h

module _ (σ : State) (inv : Invariant σ) where
  abbrev m : Memory
  m = σ.memory

  decide : (d t : ℕ) → m.result d ≡ undecided → m.word (m.fields d).p2 ≡ mark d t → Decides m d (set_result m d (won t))
  decide d t e here =
      let installed = inv.sound.installed d e in
      record {
        before = e;
        after = ap taken (update_same m.result d (won t));
        old_first = ap (value m) installed ∙ ap (first_value (m.fields d)) e;
        old_second = ap (value m) here ∙ ap (second_value (m.fields d) t) e;
        new = λ a. decide_new m d t a (inv.sound.in_place a) e installed here;
        two = λ q. grind arith;
      }

  pub says : (s : ℕ) {c0 c : Position} {e : Event} {m' : Memory} → Act s m c0 e m' c → Knows m s c0 → ((d : ℕ) → Required m s c0 d (m.result d)) → Says e m m'
  says s (swap a x y e) k w = (ap (value m) e, write_new m a y)
  says s (start d o f take) k w = λ a. prepare_same m s d o a (inv.sound.in_place a) f
  says s (meet_descriptor a d e) k w = λ a. refl
  says s (meet_mark a d t e) k w = λ a. refl
  says s (publish_hit {d} e) k w = λ a. publish_same m d a k.0 e
  says s (publish_miss e) k w = (λ a. refl, k.0)
  says s (read_open h) k w = λ a. refl
  says s (read_closed h) k w = λ a. refl
  says s (clean_descriptor {d} cas) k w = cas_same m _ _ _ cas (λ e. let p = inv.sound.in_place (m.fields d).p1 in old_first m d k (grind arith))
  says s (clean_mark {d} {t} cas) k w = cas_same m _ _ _ cas (λ _. old_second m d t (λ q. grind arith))
  says s (place_hit {d} {own} e) k w = write_same m (m.fields d).p2 (mark d s) (sym (old_second m d s (λ q. let x = w d in grind arith)) ∙ ap (value m) (sym e))
  says s (place_miss e) k w = λ a. refl
  says s (re_read_mark t e) k w = λ a. refl
  says s (re_read_other h) k w = λ a. refl
  says s (fail_undecided {d} e) k w = λ a. fail_same m d a e
  says s (fail_failed e) k w = λ a. refl
  says s (fail_won r e) k w = λ a. refl
  says s (fail_success e) k w = (λ a. refl, e)
  says s (give_back_go {d} cas) k w =
      (cas_same m _ _ _ cas (λ e. let p = inv.sound.in_place (m.fields d).p1 in old_first m d (grind arith) (grind arith)), cas_ended m false d _ _ _ cas k)
  says s (decide_wins {d} {t} e) k w = decide d t e (k.1 e)
  says s (decide_won r e) k w = λ a. refl
  says s (decide_late ok e) k w = λ a. refl
  says s (decide_ended ok e) k w = (λ a. refl, e)
  says s (finish_first_go {d} {t = r} cas) k w = cas_same m _ _ _ cas (λ _. new_first m d r k.0)
  says s (finish_second_go {d} {t = r} cas) k w = cas_same m _ _ _ cas (λ e. new_second m d r k.0 (λ dn. k.1 dn e))
  says s (write_success_go {d} {t = r}) k w = (λ a. success_same m d r a (inv.sound.in_place a) k.0 k.1, rw (update_same m.result d success) refl)
  says s (withdraw_go {d} {own} {ok} cas) k w = (cas_same m _ _ _ cas (λ _. old_second m d s (λ q. grind arith)), cas_ended m ok d _ _ _ cas k)
