use Rattle.swap_bridge.proofs.system_is_safe.Goals as goal
use Rattle.swap_bridge.proofs.Main.{system}

pub returns : goal.returns
returns c = system c.swap_is_safe.ensures
