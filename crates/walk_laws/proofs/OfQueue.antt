-- A queue's parcels stand in a chain behind its leading node, so the walk gives them.
use Rattle.std.proofs.Common.{◌≡◌, ◌+◌, ◌*◌, Ok, sym, ap, ◌∙◌, arith}
use Rattle.memory.specs.Reads.{word_at}
use Rattle.memory.specs.Meaning.{stands_for}
use Rattle.kinds.specs.Views.{Owned}
use Rattle.kinds.proofs.Keeping.{reached_held}
use Rattle.queue.specs.Queue.{queue_plan}
use Rattle.queue.proofs.Facts.{queue_way}
use Rattle.queue.proofs.Steady.{queue_steady}
use Rattle.walk_laws.specs.Seeing.{view_of}
use Rattle.walk_laws.specs.Contents.{WalkGivesQueue}
use Rattle.walk_laws.proofs.Walking.{word_stands, tray_stands, unchained, walk_gives_parcels}

pub walk_gives_queue : WalkGivesQueue
walk_gives_queue m own h t E first lead w reached is_first is_lead is_w =
    let V = view_of m own h.few in
    let held = reached_held queue_plan queue_way queue_steady t reached in
    let line = held.shape in
    let head = V.word (2 * t) in
    let owned = line.chain.0 in
    let stands : stands_for m first ≡ Ok head = tray_stands m own h (2 * t) first (omega (arith, line.tray)) is_first in
    let same : lead ≡ head = cc in
    let there : word_at m (64 + head) ≡ Ok w = ap (λ k. word_at m (64 + k)) (sym same) ∙ is_w in
    let next = h.next_words head owned.positive owned.taken in
    let chain = unchained (Owned V t) V (λ k o. (o.positive, o.taken)) (V.word (64 + head)) held.parcels line.chain.2 in
    walk_gives_parcels m own h w (V.word (64 + head)) held.parcels (word_stands m own h (64 + head) w next.0 next.1 there) chain
