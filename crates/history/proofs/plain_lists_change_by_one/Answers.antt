use Rattle.history.proofs.Changing.{plain_change}
use Rattle.history.proofs.plain_lists_change_by_one.Goals as goal

pub returns : goal.returns
returns c = plain_change
