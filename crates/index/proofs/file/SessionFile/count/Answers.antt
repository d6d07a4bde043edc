use Rattle.std.proofs.Common.{arith}
use Rattle.index.specs.Opened.{texts_of}
use Rattle.index.proofs.Index.{many}
use Rattle.index.proofs.Within.{count_in, few}
use Rattle.index.proofs.file.SessionFile.count.Goals as goal

pub returns : goal.returns
unfolding texts_of
returns c =
    let f = c.args.self.now in
    let pairs = many f.bytes.now f.index.now f.pairs in
    let small = few f.bytes.now f.checked in
    record { value = omega (arith, count_in f.bytes.now); small = omega arith }
