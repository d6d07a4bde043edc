use Rattle.history.proofs.Carrying.{order_carries}
use Rattle.history.proofs.answers_name_what_changed.Goals as goal

pub returns : goal.returns
returns c = order_carries
