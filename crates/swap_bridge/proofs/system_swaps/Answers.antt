use Rattle.swap_bridge.proofs.system_swaps.Goals as goal
use Rattle.swap_bridge.proofs.Example.{swaps}

pub returns : goal.returns
returns c = swaps
