-- The law follows from what `lays` is and from what the kinds' openings write.
use Rattle.std.proofs.Common.{◌*◌, ◌^◌, ◌<◌, rules}
use Rattle.board.specs.Lays.{lays}
use Rattle.board.specs.Lent.{held}
use Rattle.board.proofs.Laying.{laid_lawful, equals_laid}
use Rattle.board.proofs.board.Layout.lay.Goals as goal

pub returns-clause-law : goal.returns-clause-law
returns-clause-law g c =
    let n = c.args.self.now in
    let t = held c.args.tables.now in
    let plan = g.K.TrayKind.plan in
    let digits : n.kinds < 2 ^ (4 * n.trays) = rw (← c.self.view_is, ← c.board.view_is) c.board.invariant.kind_digits in
    equals_laid c.args.kind n t (lays plan n t c.args.kind) (laid_lawful plan c.show_points.ensures n t c.args.kind digits) _ _ _ (search rules)
