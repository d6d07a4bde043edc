use Rattle.swap_machine.proofs.swap_is_safe.Goals as goal
use Rattle.swap_machine.proofs.Main.{safe}

pub returns : goal.returns
returns c = safe
