-- Two runs in which descriptor 1 swaps addresses 0 and 1 from (0, 0) to (7, 9): the theorem is not about nothing.
use Rattle.std.specs.Prelude.{◌≡◌, List}
use Rattle.swap_machine.specs.Update.{update}
use Rattle.swap_machine.specs.Machine.{mark, Fields, scanner, Event, decided, Memory, Position, idle, State, Act}
use Rattle.swap_machine.specs.Meaning.{stands_for}
use Rattle.swap_machine.specs.Safety.{Initial, Run, decisions}

-- what descriptor 1 is to do
abbrev pub task : Fields
task = record { p1 = 0; o1 = 0; n1 = 7; p2 = 1; o2 = 0; n2 = 9 }

-- Some run swaps both words, with one decision.
abbrev pub Swaps : Type 0
Swaps =
    (σ τ : State)
    × (h : List Event)
    × Initial σ
    × Run σ h τ
    × (τ.memory.fields 1 ≡ task)
    × (decisions 1 h ≡ 1)
    × (stands_for σ.memory 0 ≡ 0)
    × (stands_for σ.memory 1 ≡ 0)
    × (stands_for τ.memory 0 ≡ 7)
    × (stands_for τ.memory 1 ≡ 9)

-- In some run scanner 6 decides descriptor 1 of scanner 5, by the mark that scanner 5 placed; then both end, and both words are swapped.
abbrev pub Helps : Type 0
Helps =
    (σ τ υ : State)
    × (h g : List Event)
    × (m : Memory)
    × (c : Position)
    × Initial σ
    × Run σ h τ
    × (τ.memory.fields 1 ≡ task)
    × (τ.memory.owner 1 ≡ scanner 5)
    × (τ.memory.word 1 ≡ mark 1 5)
    × Act 6 τ.memory (τ.at 6) (decided 1) m c
    × Run (record { memory = m; at = update τ.at 6 c }) g υ
    × (υ.at 5 ≡ idle)
    × (υ.at 6 ≡ idle)
    × (stands_for υ.memory 0 ≡ 7)
    × (stands_for υ.memory 1 ≡ 9)
