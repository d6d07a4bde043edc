-- The law of kinds, from the facts of the queue.
use Rattle.kinds.proofs.FromFacts.{points}
use Rattle.queue.specs.Queue.{queue_plan}
use Rattle.queue.proofs.Facts.{queue_way}
use Rattle.queue.proofs.Steady.{queue_steady}
use Rattle.queue.proofs.queue.QueueTrayKind.show_points.Goals as goal

pub returns : goal.returns
returns c k = points queue_plan queue_way queue_steady
