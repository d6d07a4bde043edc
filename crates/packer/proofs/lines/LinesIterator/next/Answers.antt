use Rattle.std.proofs.Common.{◌≡◌, ◌<◌, ◌∷◌, length, drop, sym, refl, ap, ◌∙◌, arith, rules}
use Rattle.std.proofs.lemmas.Bool.{eqb-false}
use Rattle.packer.specs.Lines.{lines_of}
use Rattle.packer.proofs.FirstLine.{after_feed, cut_there}
use Rattle.packer.proofs.lines.LinesIterator.next.Goals as goal

pub returns : goal.returns
returns c =
    let text = c.args.self.now.left.now in
    let after = c.split_at.result.1.now in
    let some : 0 < length text = omega (arith, eqb-false (length text) 0 (sym c.if-is_empty.ensures)) in
    let left : c.unwrap_or-self.result.now ≡ drop 1 after = ap (λ x. x.now) c.unwrap_or-self.ensures ∙ after_feed (λ x. x.now) c.get.result _ refl after c.get.ensures.lookup in
    let steps : lines_of text ≡ c.split_at.result.0.now ∷ lines_of c.unwrap_or-self.result.now = cut_there text some _ c.first_feed.ensures c.unwrap_or-end.result c.unwrap_or-end.ensures _ after _ c.split_at.ensures.front c.split_at.ensures.back left in
    record { steps = steps; goes = search rules }
