-- A stack's parcels stand in a chain, so the walk gives them.
use Rattle.std.proofs.Common.{◌*◌, arith}
use Rattle.kinds.proofs.Keeping.{reached_held}
use Rattle.kinds.proofs.Distinct.{In}
use Rattle.stack.specs.Stack.{stack_plan}
use Rattle.stack.proofs.Facts.{stack_way}
use Rattle.stack.proofs.Shown.{stack_steady}
use Rattle.walk_laws.specs.Seeing.{view_of}
use Rattle.walk_laws.specs.Contents.{WalkGivesStack}
use Rattle.walk_laws.proofs.Walking.{tray_stands, unchained, walk_gives_parcels}

pub walk_gives_stack : WalkGivesStack
walk_gives_stack m own h t E w reached e =
    let V = view_of m own h.few in
    let held = reached_held stack_plan stack_way stack_steady t reached in
    let pile = held.shape in
    let chain = unchained (λ k. In k held.aux) V (λ k i. ((pile.nodes k i).positive, (pile.nodes k i).taken)) (V.word (2 * t)) held.parcels pile.chain in
    walk_gives_parcels m own h w (V.word (2 * t)) held.parcels (tray_stands m own h (2 * t) w (omega (arith, pile.tray)) e) chain
