-- The tables with the scanners that work on them.
use Rattle.std.specs.Prelude.{ℕ, Bool}
use Rattle.memory.specs.Seen.{Seen}
use Rattle.swap_access.specs.declared.position.Position.{Position}
use Rattle.swap_machine.specs.Machine.{Owner}

-- Where a scanner stands: outside any swap, or at a position of the code; true: in its own run, false: in a help.
pub data Standing : Type 0 where
  resting : Standing
  working : Bool → Position → Standing

-- The tables and where each scanner stands. Two more things are kept that no table holds: who prepared a descriptor, and which
-- descriptors were published, since the number 1 in a result means both "not yet published" and "undecided".
pub record System : Type 0 where
  pub tables : Seen
  pub standing : ℕ → Standing
  pub owner : ℕ → Owner
  pub published : ℕ → Bool
