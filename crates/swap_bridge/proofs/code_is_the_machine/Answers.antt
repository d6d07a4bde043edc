use Rattle.swap_bridge.proofs.code_is_the_machine.Goals as goal
use Rattle.swap_bridge.proofs.Main.{machine}

pub returns : goal.returns
returns c = machine c.swap_is_safe.ensures
