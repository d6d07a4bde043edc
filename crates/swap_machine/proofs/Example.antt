-- The two runs, step by step.
use Rattle.std.proofs.Common.{refl, true, false, [], ℕ, arith, ◌≢◌}
use Rattle.swap_machine.specs.Update.{update}
use Rattle.swap_machine.specs.Machine.{plain, mark, fresh, won, nobody, Memory, via_mark, State, prepare, publish, write, set_result}
use Rattle.swap_machine.specs.Machine.{Position, idle, at_publish, at_read_result, at_place_mark, at_re_read, at_decide, at_finish_first}
use Rattle.swap_machine.specs.Machine.{act, hit, miss, start, publish_hit, meet_mark, read_open, place_hit, place_miss, re_read_mark, decide_wins, decide_late, finish_first_go, finish_second_go, write_success_go, withdraw_go}
use Rattle.swap_machine.specs.Safety.{Initial, Run, begin, then}
use Rattle.swap_machine.specs.Example.{task, Swaps, Helps}

abbrev empty : State
empty = record { memory = record { word = λ a. plain 0; result = λ d. fresh; fields = λ d. task; owner = λ d. nobody }; at = λ s. idle }

initial : Initial empty
initial = record { plain_words = λ a. (0, refl); all_fresh = λ d. refl; all_idle = λ s. refl }

-- scanner 5 alone
pub swaps : Swaps
swaps =
    let r1 = then begin (act 5 (start 1 task refl tt)) in
    let r2 = then r1 (act 5 (publish_hit refl)) in
    let r3 = then r2 (act 5 (place_hit refl)) in
    let r4 = then r3 (act 5 (decide_wins refl)) in
    let r5 = then r4 (act 5 (finish_first_go (hit refl))) in
    let r6 = then r5 (act 5 (finish_second_go (hit refl))) in
    (_, _, _, initial, then r6 (act 5 write_success_go), refl, refl, refl, refl, refl, refl)

-- scanner 5 has placed its mark, and scanner 6 has met it
abbrev next : State → ℕ → Memory → Position → State
next σ s m c = record { memory = m; at = update σ.at s c }

abbrev marked : State
marked =
    let σ1 = next empty 5 (prepare empty.memory 5 1 task) (at_publish 1) in
    let σ2 = next σ1 5 (publish σ1.memory 1) (at_place_mark 1 true) in
    next σ2 5 (write σ2.memory 1 (mark 1 5)) (at_decide 1 true 5 true)

abbrev met : State
met =
    let m = marked.memory in
    next (next (next (next marked 6 m (at_read_result 1 (via_mark 5))) 6 m (at_place_mark 1 false)) 6 m (at_re_read 1 false)) 6 m (at_decide 1 false 5 false)

-- scanner 6 has decided
abbrev won_by_mark : State
won_by_mark = next met 6 (set_result met.memory 1 (won 5)) (at_finish_first 1 false 5)

not_plain : (d t n : ℕ) → mark d t ≢ plain n
not_plain d t n q = grind arith

not_mark : (d t n : ℕ) → plain n ≢ mark d t
not_mark d t n q = grind arith

-- scanner 6 finishes, and scanner 5 finds that it is too late to decide
pub helps : Helps
helps =
    let r0 : Run empty [] empty = begin in
    let r1 = then r0 (act 5 (start 1 task refl tt)) in
    let r2 = then r1 (act 5 (publish_hit refl)) in
    let r3 = then {υ = marked} r2 (act 5 (place_hit refl)) in
    let r4 = then r3 (act 6 (meet_mark 1 1 5 refl)) in
    let r5 = then r4 (act 6 (read_open (λ c. c))) in
    let r6 = then r5 (act 6 (place_miss (not_plain 1 5 0))) in
    let r7 = then {υ = met} r6 (act 6 (re_read_mark 5 refl)) in
    let f0 : Run won_by_mark [] won_by_mark = begin in
    let f1 = then f0 (act 6 (finish_first_go (hit refl))) in
    let f2 = then f1 (act 6 (finish_second_go (hit refl))) in
    let f3 = then f2 (act 6 write_success_go) in
    let f4 = then f3 (act 5 (decide_late true refl)) in
    let f5 = then f4 (act 5 (withdraw_go (miss (not_mark 1 5 9)))) in
    (empty, met, _, _, _, _, _, initial, r7, refl, refl, refl, decide_wins refl, f5, refl, refl, refl, refl)
