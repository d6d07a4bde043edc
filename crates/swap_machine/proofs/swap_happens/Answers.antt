use Rattle.swap_machine.proofs.swap_happens.Goals as goal
use Rattle.swap_machine.proofs.Example.{swaps}

pub returns : goal.returns
returns c = swaps
