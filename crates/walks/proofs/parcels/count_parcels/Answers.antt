use Rattle.std.proofs.Common.{◌+◌, ◌<◌, ◌≤◌, Ok, Err, sym, ap, ◌∙◌, arith}
use Rattle.std.proofs.lemmas.Result.{err_from_is_err_and}
use Rattle.memory.specs.Lent.{seen_of}
use Rattle.walks.proofs.Counting.{count_begins, count_more, count_ends, count_stops, count_torn}
use Rattle.walks.proofs.parcels.count_parcels.Goals as goal

pub loop-count-init : goal.loop-count-init
loop-count-init c = count_begins (seen_of c.args.memory.now) c.args.memory.now.nodes_taken c.args.from

pub loop-count-preserved : goal.loop-count-preserved
loop-count-preserved c =
    let h : c.loop-count.count < c.args.memory.now.nodes_taken + 1 = omega arith in
    count_more (seen_of c.args.memory.now) _ _ _ _ c.loop-count.invariant h c.in-Some.node (ap Ok (sym c.in-Some.is) ∙ c.in_ok-node.ensures)

-- the last turn has come to a node
pub returns-in-Some : goal.returns-in-Some
returns-in-Some c =
    let h : c.loop-count.count < c.args.memory.now.nodes_taken + 1 = omega arith in
    let last : c.args.memory.now.nodes_taken + 1 ≤ c.loop-count.count + 1 = omega arith in
    count_torn (seen_of c.args.memory.now) _ _ _ _ (count_more (seen_of c.args.memory.now) _ _ _ _ c.loop-count.invariant h c.in-Some.node (ap Ok (sym c.in-Some.is) ∙ c.in_ok-node.ensures)) last

pub returns-in-None : goal.returns-in-None
returns-in-None c =
    let h : c.loop-count.count < c.args.memory.now.nodes_taken + 1 = omega arith in
    count_ends (seen_of c.args.memory.now) _ _ _ _ c.loop-count.invariant h (ap Ok (sym c.in-None.is) ∙ c.in_ok-node.ensures)

pub returns-in_err-node : goal.returns-in_err-node
returns-in_err-node c =
    let h : c.loop-count.count < c.args.memory.now.nodes_taken + 1 = omega arith in
    let error = err_from_is_err_and c.from_residual.result c.from_residual.ensures.1 in
    error.1 ∙ ap Err error.2 ∙ count_stops (seen_of c.args.memory.now) _ _ _ _ c.loop-count.invariant h _ c.in_err-node.ensures
