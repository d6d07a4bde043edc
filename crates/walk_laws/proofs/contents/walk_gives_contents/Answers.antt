use Rattle.walk_laws.proofs.Walking.{walk_gives_parcels}
use Rattle.walk_laws.proofs.OfStack.{walk_gives_stack}
use Rattle.walk_laws.proofs.OfQueue.{walk_gives_queue}
use Rattle.walk_laws.proofs.contents.walk_gives_contents.Goals as goal

pub returns : goal.returns
returns c = record { parcels = walk_gives_parcels; stack = walk_gives_stack; queue = walk_gives_queue }
