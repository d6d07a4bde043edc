use Rattle.std.proofs.Common.{suc, ◌+◌, [], get_or, ap, arith}
use Rattle.index.specs.Index.{number_at}
use Rattle.index.proofs.texts.TextsIterator.next.Goals as goal

pub invariant_of-self : goal.invariant_of-self
invariant_of-self c =
    let e = c.in_ok-pair.ensures.cases in
    record {
      within = λ i h.
          let was = c.args.self.now.within (suc i) (omega arith) in
          let next = ap (λ l. number_at (get_or l (suc i) []) 0 + number_at (get_or l (suc i) []) 2) e.0 in
          omega arith;
    }
