use Rattle.std.proofs.Common.{◌∙◌, arith}
use Rattle.index.specs.Opened.{texts_of}
use Rattle.index.proofs.Index.{many, starts, ends}
use Rattle.index.proofs.Within.{past, there, sound_apart}
use Rattle.index.proofs.file.SessionFile.text.Goals as goal

pub slice_bounds-result-end : goal.slice_bounds-result-end
slice_bounds-result-end c =
    let f = c.args.self.now in
    let e = c.in-Some.ensures.lookup in
    let pairs = many f.bytes.now f.index.now f.pairs in
    let end = ends f.bytes.now f.index.now f.pairs c.args.order e.3.0 _ _ e.1 in
    let inside = (sound_apart f.bytes.now f.checked).inside c.args.order (omega (arith, e.3.0)) in
    omega arith

pub returns-in-Some : goal.returns-in-Some
unfolding texts_of
returns-in-Some c =
    let f = c.args.self.now in
    let e = c.in-Some.ensures.lookup in
    let start = starts f.bytes.now f.index.now f.pairs c.args.order e.3.0 _ _ e.1 in
    let end = ends f.bytes.now f.index.now f.pairs c.args.order e.3.0 _ _ e.1 in
    there f.bytes.now c.args.order (omega (arith, e.3.0, many f.bytes.now f.index.now f.pairs)) _ (c.place_of.ensures.start ∙ start) _ (c.place_of.ensures.end ∙ end)

pub returns-in-None : goal.returns-in-None
unfolding texts_of
returns-in-None c =
    let f = c.args.self.now in
    past f.bytes.now c.args.order (omega (arith, c.in-None.ensures.lookup.3, many f.bytes.now f.index.now f.pairs))
