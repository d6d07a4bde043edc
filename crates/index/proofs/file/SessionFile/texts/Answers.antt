use Rattle.std.proofs.Common.{[], length, refl, ap, arith}
use Rattle.index.specs.Opened.{texts_of}
use Rattle.index.proofs.Index.{many, ends, texts_by_pairs}
use Rattle.index.proofs.Within.{count_in, few, sound_apart}
use Rattle.index.proofs.file.SessionFile.texts.Goals as goal

pub invariant_of-result : goal.invariant_of-result
invariant_of-result c =
    let f = c.args.self.now in
    record {
      within = λ i h.
          let end = ends f.bytes.now f.index.now f.pairs i h _ [] refl in
          let inside = (sound_apart f.bytes.now f.checked).inside i (omega (arith, many f.bytes.now f.index.now f.pairs)) in
          omega arith;
    }

pub returns : goal.returns
unfolding texts_of
returns c =
    let f = c.args.self.now in
    let texts = texts_by_pairs f.bytes.now f.index.now f.pairs in
    let same = ap length texts in
    let small = few f.bytes.now f.checked in
    record { texts = texts; few = omega (arith, count_in f.bytes.now) }
