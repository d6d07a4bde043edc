use Rattle.std.proofs.Common.{arith, rules}
use Rattle.board.proofs.Digits.{digit}
use Rattle.board.proofs.board.Board.add_tray.Goals as goal

pub overflow_add-self : goal.overflow_add-self
overflow_add-self c =
    let d = digit c.self.inside.trays c.args.kind c.self.inside.kinds (search rules) c.requires.digit c.self.invariant.kind_digits in
    record { fits = omega (arith, d.exact, d.bound, d.fits) }

pub invariant_of-self : goal.invariant_of-self
invariant_of-self c =
    let d = digit c.self.inside.trays c.args.kind c.self.inside.kinds (search rules) c.requires.digit c.self.invariant.kind_digits in
    record { few_trays = search rules; small_crew = c.self.invariant.small_crew; kind_digits = omega (arith, d.exact, d.bound) }

pub returns : goal.returns
returns c =
    let d = digit c.self.inside.trays c.args.kind c.self.inside.kinds (search rules) c.requires.digit c.self.invariant.kind_digits in
    grind (arith, rules, d.exact)
