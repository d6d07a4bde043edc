use Rattle.std.proofs.Common.{Ok, get_or, arith}
use Rattle.std.proofs.lemmas.Grind.{common_steps}
use Rattle.orders.specs.declared.order.Order.TheVariants.{Start}
use Rattle.orders.proofs.OrderLaws.{order_law}
use Rattle.orders.proofs.read.read_order.Goals as goal

pub returns-in_err-crew-in-N-clause-law : goal.returns-in_err-crew-in-N-clause-law
returns-in_err-crew-in-N-clause-law c = order_law c.args.text.now _ (grind (arith, common_steps))

pub returns-in_ok-crew-in-N-clause-law : goal.returns-in_ok-crew-in-N-clause-law
returns-in_ok-crew-in-N-clause-law c = order_law c.args.text.now (Ok (Start (get_or c.in_ok-crew-in-N.field-0 0 0))) (grind (arith, common_steps))
