use Rattle.std.proofs.Common.{◌<◌, length, Err, ap, ◌∙◌, arith, length-set}
use Rattle.std.proofs.lemmas.Result.{err_from_is_err_and}
use Rattle.orders.proofs.Counted.{goes, fails}
use Rattle.orders.proofs.number.read_numbers.Goals as goal

pub returns-in_err-number : goal.returns-in_err-number
returns-in_err-number g c =
    let loop = c.loop-place in
    let error = err_from_is_err_and c.from_residual.result c.from_residual.ensures.1 in
    error.1 ∙ ap Err error.2 ∙ fails _ _ _ _ _ loop.invariant.1 c.loop-place-test.true _ c.in_err-number.ensures

pub loop-place-preserved : goal.loop-place-preserved
loop-place-preserved g c =
    let loop = c.loop-place in
    let within : loop.place-index < length loop.place-items = omega (arith, loop.invariant.0) in
    (length-set _ _ _ ∙ loop.invariant.0, goes _ _ _ _ _ loop.invariant.1 c.loop-place-test.true _ within c.in_ok-number.ensures)
