-- The orders that are left, carried out from here, give what the whole session gives.
use Rattle.std.proofs.Common.{◌≡◌, ◌+◌, length}
use Rattle.std.specs.Iterator.Adapters.{zip_first, zip_second}
use Rattle.index.specs.Opened.{texts_of}
use Rattle.index.specs.Left.{texts_left}
use Rattle.board.specs.Lent.{held, SameTables}
use Rattle.session.specs.Plays.{state, orders_from}
use Rattle.session.proofs.play.play_orders.Given as goal

abbrev pub invariant-loop-order : goal.invariant-loop-order
invariant-loop-order l = record {
  count : (zip_first l.order-iterator).start + length (texts_left (zip_second l.order-iterator)) ≡ 1 + length (texts_of l.fn.file);
  goes :
      orders_from (zip_first l.order-iterator).start (texts_left (zip_second l.order-iterator)) (state l.phase (held l.tables) l.at l.out)
      ≡ orders_from 1 (texts_of l.fn.file) (state l.initial.phase (held l.initial.tables) l.initial.at l.initial.out);
  same : SameTables l.initial.tables l.tables;
}
