-- The run, step by step.
use Rattle.std.proofs.Common.{◌≡◌, ℕ, zero, suc, ◌-◌, true, false, [], ◌∷◌, get_or, Some, None, Ok, Option, sym, refl, ap, subst, arith, lit≤}
use Rattle.std.proofs.lemmas.Bool.Decides.{nat_tests}
use Rattle.records.specs.Tables.{zero_node, zero_descriptor}
use Rattle.memory.specs.declared.address.Address.{Address as Place}
use Rattle.memory.specs.declared.address.Address.TheVariants.{TrayWord, NextWord}
use Rattle.memory.specs.Addresses.{addressed}
use Rattle.memory.specs.Seen.{Seen}
use Rattle.memory.specs.Reads.{descriptor_at, word_in}
use Rattle.swap_access.specs.declared.position.End.TheVariants.{Success}
use Rattle.swap_access.specs.declared.position.Next.TheVariants.{At, Ended}
use Rattle.swap_access.specs.declared.position.Position.TheVariants.{Publish, PlaceMark, Decide, FinishFirst, FinishSecond, WriteSuccess}
use Rattle.swap_access.specs.Effects.{word_write, result_write}
use Rattle.swap_access.specs.Found.{found_at, outcome_at}
use Rattle.swap_access.specs.Accesses.{swap_word, install, remove}
use Rattle.swap.specs.Dispatch.{decided}
use Rattle.swap_bridge.specs.Abstraction.{or_zero, outcome}
use Rattle.swap_bridge.specs.Valid.{Plain, Task}
use Rattle.swap_bridge.specs.Does.{Runs, begin, then, steps, prepares}
use Rattle.swap_bridge.specs.Theorems.{Begins}
use Rattle.swap_bridge.specs.Example.{beginning, task, Swaps}
use Rattle.memory.specs.Meaning.{outcome_of}

zero_words : (i : ℕ) → ◌≡◌ {A = ℕ} (get_or (0 ∷ (0 ∷ [])) i 0) 0
zero_words zero = refl
zero_words (suc zero) = refl
zero_words (suc (suc i)) = refl

zero_nodes : (i : ℕ) → get_or (zero_node ∷ (zero_node ∷ [])) i zero_node ≡ zero_node
zero_nodes zero = refl
zero_nodes (suc zero) = refl
zero_nodes (suc (suc i)) = refl

abbrev m : Seen
m = beginning.tables

reads_nil : (p : Option Place) (w : ℕ) → word_in m p ≡ Ok w → w ≡ 0
reads_nil None w e = grind arith
reads_nil (Some (TrayWord i)) w e = let z = zero_words i in grind (arith, nat_tests)
reads_nil (Some (NextWord n)) w e = let z = zero_nodes (n - 1) in grind (arith, nat_tests)

none_taken : (d : ℕ) → or_zero (descriptor_at m d) ≡ zero_descriptor
none_taken d = grind (arith, nat_tests)

begins : Begins beginning
begins =
    record {
      rooms = record { nodes = lit≤ tt; descriptors = lit≤ tt };
      plain_words = λ a w e. subst (Plain m) (sym (reads_nil (addressed a) w e)) refl;
      all_fresh = λ d. ap (λ x. outcome false (outcome_of d x.result)) (none_taken d);
      all_resting = λ s. refl;
    }

pub swaps : Swaps
unfolding decided install remove swap_word found_at outcome_at
swaps =
    let t : Task m task = record { first_address = (0, refl); first_old = refl; first_new = refl; second_address = (0, refl); second_old = refl; second_new = refl } in
    let r0 : Runs beginning [] beginning = begin in
    let r1 = then r0 (prepares 0 1 task refl (lit≤ tt) (record { low = lit≤ tt; next = lit≤ tt; room = lit≤ tt; unpublished = refl; unused = refl; takes = tt; task = t; no_result = refl })) in
    let r2 = then r1 (steps 0 true (Publish 1) (word_write 0 65537 (At (PlaceMark 1))) refl refl) in
    let r3 = then r2 (steps 0 true (PlaceMark 1) (word_write 1 131073 (At (Decide 1 0 true))) refl refl) in
    let r4 = then r3 (steps 0 true (Decide 1 0 true) (result_write 1 131073 (At (FinishFirst 1 0))) refl refl) in
    let r5 = then r4 (steps 0 true (FinishFirst 1 0) (word_write 0 1 (At (FinishSecond 1 0))) refl refl) in
    let r6 = then r5 (steps 0 true (FinishSecond 1 0) (word_write 1 2 (At (WriteSuccess 1 0))) refl refl) in
    (_, _, begins, then r6 (steps 0 true (WriteSuccess 1 0) (result_write 1 2 (Ended Success)) refl refl), refl)
