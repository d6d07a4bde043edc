use Rattle.std.proofs.Common.{◌≡◌, ◌<◌, [], refl, sym, ap, ◌∙◌, arith}
use Rattle.index.specs.Index.{count_of, all_lie}
use Rattle.index.proofs.Index.{many, starts, ends}
use Rattle.index.proofs.Lies.{begins_early, leaves, one_more, end_before_more}
use Rattle.index.proofs.file.all_lie.Goals as goal
use Rattle.index.proofs.file.all_lie.Goals.{then-place-end-via-then-place-end, then-place-end-via-else-place-end+then-place-bytes}

pub returns-then-place-end : goal.returns-then-place-end
returns-then-place-end c =
    let file = c.args.bytes.now in
    let index = c.args.index.now in
    let start = starts file index c.requires c.loop-pair.pair-index c.loop-pair-test.true _ [] refl in
    let end = ends file index c.requires c.loop-pair.pair-index c.loop-pair-test.true _ [] refl in
    let less : c.loop-pair.pair-index < count_of file = omega (arith, many file index c.requires) in
    elim c.then-place-end.branch [
      | then-place-end-via-then-place-end w ↦ begins_early _ _ _ c.loop-pair.invariant _ less (omega arith)
      | then-place-end-via-else-place-end+then-place-bytes w ↦ leaves _ _ _ c.loop-pair.invariant _ less (omega arith)
    ]

pub loop-pair-preserved : goal.loop-pair-preserved
loop-pair-preserved c =
    let file = c.args.bytes.now in
    let index = c.args.index.now in
    let start = starts file index c.requires c.loop-pair.pair-index c.loop-pair-test.true _ [] refl in
    let end = ends file index c.requires c.loop-pair.pair-index c.loop-pair-test.true _ [] refl in
    (one_more _ _ _ c.loop-pair.invariant (omega arith) (omega arith), c.place_of-place.ensures.end ∙ end ∙ end_before_more file _)

pub returns : goal.returns
returns c =
    let all : c.loop-pair.pair-index ≡ count_of c.args.bytes.now = omega (arith, many c.args.bytes.now c.args.index.now c.requires) in
    sym (ap (all_lie c.args.bytes.now) (sym all) ∙ c.loop-pair.invariant.0)
