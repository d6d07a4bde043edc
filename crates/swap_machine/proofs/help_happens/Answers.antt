use Rattle.swap_machine.proofs.help_happens.Goals as goal
use Rattle.swap_machine.proofs.Example.{helps}

pub returns : goal.returns
returns c = helps
