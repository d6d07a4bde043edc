-- The theorem.
use Rattle.swap_machine.specs.Safety.{Safe}
use Rattle.swap_machine.proofs.Cover.{cover}
use Rattle.swap_machine.proofs.Steps.{initially, kept, good, orderly}
use Rattle.swap_machine.proofs.Counting.{holds, once, final}
use Rattle.swap_machine.proofs.Endings.{owner_at_work, unmet, succeeds, second_fails, first_fails}

pub safe : Safe
safe =
    record {
      starts = initially;
      keeps = kept;
      holds = holds;
      good = good;
      orderly = λ σ s e m c inv a. orderly σ inv s e m c a;
      goes_on = λ σ inv s h. cover σ.memory s (σ.at s) (inv.knows s) h;
      once = once;
      final = final;
      owner_at_work = owner_at_work;
      unmet = unmet;
      succeeds = succeeds;
      second_fails = second_fails;
      first_fails = first_fails;
    }
