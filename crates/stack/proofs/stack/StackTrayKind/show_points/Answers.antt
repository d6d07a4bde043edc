-- The law of kinds, from the facts of the stack.
use Rattle.kinds.proofs.FromFacts.{points}
use Rattle.stack.specs.Stack.{stack_plan}
use Rattle.stack.proofs.Facts.{stack_way}
use Rattle.stack.proofs.Shown.{stack_steady}
use Rattle.stack.proofs.stack.StackTrayKind.show_points.Goals as goal

pub returns : goal.returns
returns c k = points stack_plan stack_way stack_steady
