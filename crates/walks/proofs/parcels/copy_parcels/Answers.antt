use Rattle.std.proofs.Common.{◌<◌, ◌≤◌, length, Ok, Err, sym, ap, ◌∙◌, arith}
use Rattle.std.proofs.lemmas.List.{set-get_or}
use Rattle.std.proofs.lemmas.Result.{err_from_is_err_and}
use Rattle.memory.specs.Lent.{seen_of}
use Rattle.walks.specs.Walked.{walked}
use Rattle.walks.proofs.Copying.{copy_begins, copy_more, copy_ends, copy_sure, copy_refused}
use Rattle.walks.proofs.parcels.copy_parcels.Goals as goal

pub returns-in_err-count : goal.returns-in_err-count
returns-in_err-count c =
    let error = err_from_is_err_and c.from_residual.result c.from_residual.ensures.1 in
    record {
      answer = error.1 ∙ ap Err error.2 ∙ c.in_err-count.ensures;
      after = copy_refused (walked (seen_of c.args.memory.now) c.args.memory.now.nodes_taken c.args.from) _ c.args.parcels.now c.in_err-count.ensures;
    }

pub loop-parcel-init : goal.loop-parcel-init
loop-parcel-init c = copy_begins (seen_of c.args.memory.now) c.args.memory.now.nodes_taken c.args.from c.in_ok-count.count c.args.parcels.now c.in_ok-count.ensures

pub loop-parcel-preserved : goal.loop-parcel-preserved
loop-parcel-preserved c =
    let room : c.loop-parcel.parcel-index < length c.args.parcels.now = omega arith in
    copy_more _ _ _ _ _ _ c.loop-parcel.invariant c.in-Some.node room (ap Ok (sym c.in-Some.is) ∙ c.in_ok-node.ensures)

pub returns-in_err-node : goal.returns-in_err-node
returns-in_err-node c = absurd (copy_sure _ _ _ _ _ _ c.loop-parcel.invariant _ c.in_err-node.ensures)

-- the walk has come to nil
pub returns-in_default : goal.returns-in_default
returns-in_default c =
    let room : c.loop-parcel.parcel-index ≤ length c.args.parcels.now = omega arith in
    record {
      answer = c.in_ok-count.ensures;
      after = set-get_or c.loop-parcel.parcels c.loop-parcel.parcel-index 0 ∙ copy_ends _ _ _ _ _ _ c.loop-parcel.invariant room (ap Ok (sym c.in_default.is) ∙ c.in_ok-node.ensures);
    }
