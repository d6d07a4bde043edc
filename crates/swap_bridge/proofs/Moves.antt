-- One access of the code and the machine's step that it is.
use Rattle.std.proofs.Common.{None, Option, Some, ◌≡◌, ℕ, ◌+◌, ◌*◌, ◌≤◌, Bool, true, false, cond, eqb, ◌≢◌, Ok, Result, sym, refl, ap, ◌∙◌, subst, inl, inr, arith}
use Rattle.std.proofs.lemmas.Bool.Decides.{nat_tests, eqb_tells}
use Rattle.refusals.specs.declared.refusal.Refusal.{Refusal}
use Rattle.words.specs.declared.word.Word.{Word as CodeWord}
use Rattle.words.specs.declared.word.Word.TheVariants.{Nil, Node, Descriptor, Mark}
use Rattle.words.specs.Words.{told}
use Rattle.records.specs.declared.entries.Descriptor.{Descriptor as Record}
use Rattle.memory.specs.Seen.{Seen}
use Rattle.memory.specs.Reads.{on_ok, descriptor_at, word_at}
use Rattle.memory.specs.declared.meaning.Outcome.{Outcome as CodeOutcome}
use Rattle.memory.specs.declared.meaning.Outcome.TheVariants.{Undecided, Success, SecondFailed, DecidedBy}
use Rattle.memory.specs.Meaning.{outcome_of}
use Rattle.swap_access.specs.declared.effect.Effect.{Effect}
use Rattle.swap_access.specs.declared.effect.Write.{Write}
use Rattle.swap_access.specs.declared.effect.Write.TheVariants.{Word as WordWrite, Result as ResultWrite}
use Rattle.swap_access.specs.declared.position.Met.{Met}
use Rattle.swap_access.specs.declared.position.Met.TheVariants.{Descriptor as by_descriptor, Mark as by_mark}
use Rattle.swap_access.specs.declared.position.End.TheVariants.{FirstFailed, Helped}
use Rattle.swap_access.specs.declared.position.Next.{Next}
use Rattle.swap_access.specs.declared.position.Next.TheVariants.{At, Ended}
use Rattle.swap_access.specs.declared.position.Position.{Position as CodePosition}
use Rattle.swap_access.specs.declared.position.Position.TheVariants.{Publish, ReadResult, Clean, PlaceMark, ReRead, TryToFail, GiveBack, Decide, FinishFirst, FinishSecond, WriteSuccess, Withdraw}
use Rattle.swap_access.specs.Effects.{no_write, word_write, result_write, end_of}
use Rattle.swap_access.specs.Found.{known, number_of, outcome_at}
use Rattle.swap_access.specs.Accesses.{swap_word, remove}
use Rattle.swap.specs.Beginnings.{helps}
use Rattle.swap.specs.Marks.{re_reads}
use Rattle.swap.specs.Results.{fails, decides}
use Rattle.swap.specs.Dispatch.{decided as decided_by_code, access_at}
use Rattle.swap_step.specs.Steps.{written}
use Rattle.swap_machine.specs.Machine.{Word, plain, descriptor, mark, Outcome, undecided, Memory, Position, Event, silent, decided, at_publish, at_read_result, at_place_mark, write, publish, set_result, hit, miss, Act, Closed, Ended as EndedWith}
use Rattle.swap_machine.specs.Machine.{publish_hit, publish_miss, read_open, read_closed, clean_descriptor, clean_mark, place_hit, place_miss, re_read_mark, re_read_other, fail_undecided, fail_failed, fail_won, fail_success, give_back_go, decide_wins, decide_won, decide_late, decide_ended, finish_first_go, finish_second_go, write_success_go, withdraw_go}
use Rattle.swap_machine.specs.Invariant.{Live, WonBy, Knows, Invariant}
use Rattle.swap_bridge.specs.Systems.{working, System}
use Rattle.swap_bridge.specs.Abstraction.{meaning, word_read, word_of, via_of, record_at, outcome, result_at, memory_of, position_of, place_of, abstracted}
use Rattle.swap_bridge.specs.Valid.{Address, Plain, Proper, Fits, Prepared, Stands, Valid, MetFits}
use Rattle.swap_bridge.specs.Does.{swap_of, event_of, going, publishing, after}
use Rattle.swap_bridge.proofs.Words.{number, told_descriptor, told_mark, told_mark_fits, outcome_mark, outcome_mark_fits}
use Rattle.swap_bridge.proofs.Tables.{taken_place}
use Rattle.swap_bridge.proofs.Accesses.{plain_known, plain_means, descriptor_number, mark_number, goes_on, found, swaps_word, installs, removes, outcomes}
use Rattle.swap_bridge.proofs.Memories.{word_memory, publish_memory, result_memory}

-- a write of a known word at an address of the tables, or of a result of a published descriptor
abbrev pub WritesWell : Seen → (ℕ → Bool) → Option Write → Type 0
WritesWell m b None = Unit {0}
WritesWell m b (Some (WordWrite a w)) = Address m a × (known m w (told w) ≡ Ok w)
WritesWell m b (Some (ResultWrite d r)) = Proper m d × Live (result_at m b d)

-- the scanner goes on to a position that fits, and not to a publishing
abbrev pub GoesWell : Bool → Next → Type 0
GoesWell own (At p) = Fits own p × ((m : Seen) → Prepared m p)
GoesWell own (Ended e) = Unit {0}

pub record Moves (σ : System) (s : ℕ) (own : Bool) (p : CodePosition) : Type 0 where
  pub effect : Effect
  pub computes : decided_by_code σ.tables s p ≡ Ok effect
  pub acts : Act s (abstracted σ).memory (position_of own p) (event_of (swap_of p) effect.write effect.next) (abstracted (after σ s own p effect)).memory (place_of (going own effect.next))
  pub writes_well : WritesWell σ.tables σ.published effect.write
  pub goes_well : GoesWell own effect.next

-- a live descriptor, by the code's result
pub live_some : (b : Bool) (o : Option CodeOutcome) → Live (outcome b o) → (x : CodeOutcome) × (o ≡ Some x)
live_some b None l = absurd l
live_some b (Some x) l = (x, refl)

live_published : (b : Bool) → Live (outcome b (Some Undecided)) → b ≡ true
live_published true l = refl
live_published false l = absurd l

-- a step to a memory that is the same
onto : {s : ℕ} {mm : Memory} {c : Position} {e : Event} {m₁ m₂ : Memory} {c' : Position} → m₁ ≡ m₂ → Act s mm c e m₂ c' → Act s mm c e m₁ c'
onto {s} {mm} {c} {e} {m₁} {m₂} {c'} q a = subst (λ y. Act s mm c e y c') (sym q) a

onto_event : {s : ℕ} {mm : Memory} {c : Position} {e₁ e₂ : Event} {m₁ : Memory} {c' : Position} → e₁ ≡ e₂ → Act s mm c e₂ m₁ c' → Act s mm c e₁ m₁ c'
onto_event {s} {mm} {c} {e₁} {e₂} {m₁} {c'} q a = subst (λ y. Act s mm c y m₁ c') (sym q) a

mark_decides : (t d : ℕ) → cond (eqb (131072 + 4096 * t + d) 3) silent (decided d) ≡ decided d
mark_decides t d = grind (arith, nat_tests)

plain_not_mark : (n d t : ℕ) → plain n ≢ mark d t
plain_not_mark n d t q = grind arith

descriptor_not_mark : (f d t : ℕ) → descriptor f ≢ mark d t
descriptor_not_mark f d t q = grind arith

other_mark : (f d u t : ℕ) → f ≢ d → mark f u ≢ mark d t
other_mark f d u t n q = n (cc)

closed_live : (r : Outcome) → Closed r → Live r
closed_live r c = grind arith

ended_live : (ok : Bool) (r : Outcome) → EndedWith ok r → Live r
ended_live ok r c = grind arith

won_live : (t : ℕ) (r : Outcome) → WonBy t r → Live r
won_live t r c = grind arith

descriptor_known : (m : Seen) (d : ℕ) → 1 ≤ d → d ≤ 4095 → descriptor_at m d ≡ Ok (record_at m d) → known m (65536 + d) (told (65536 + d)) ≡ Ok (65536 + d)
descriptor_known m d l h e = ap (known m (65536 + d)) (told_descriptor d l h) ∙ ap (λ r. on_ok r (λ _. Ok (65536 + d))) e

mark_known : (m : Seen) (t d : ℕ) → t ≤ 15 → 1 ≤ d → d ≤ 4095 → descriptor_at m d ≡ Ok (record_at m d) → known m (131072 + 4096 * t + d) (told (131072 + 4096 * t + d)) ≡ Ok (131072 + 4096 * t + d)
mark_known m t d k l h e = ap (known m (131072 + 4096 * t + d)) (told_mark t d k l h) ∙ ap (λ r. on_ok r (λ _. Ok (131072 + 4096 * t + d))) e

module _ (σ : System) (v : Valid σ) (s : ℕ) (low : s ≤ 15) (own : Bool) where
  abbrev m : Seen
  m = σ.tables

  abbrev b : ℕ → Bool
  b = σ.published

  abbrev mem : Memory
  mem = (abstracted σ).memory

  -- a swap of one word is what the machine says, whether it hits or misses
  by_swap : (p : CodePosition) (a o n : ℕ) (w : Word) (done fail : Next) → Address m a → access_at m s p ≡ swap_word m a o n done fail → meaning (told o) ≡ w → number w ≡ o → known m n (told n) ≡ Ok n → (word_of m a ≡ w → Act s mem (position_of own p) (event_of (swap_of p) (Some (WordWrite a n)) done) (memory_of (written (Some (WordWrite a n)) m) (publishing p done b) σ.owner) (place_of (going own done))) → (word_of m a ≢ w → Act s mem (position_of own p) (event_of (swap_of p) None fail) (memory_of m (publishing p fail b) σ.owner) (place_of (going own fail))) → GoesWell own done → GoesWell own fail → Moves σ s own p
  by_swap p a o n w done fail ad ac me nu kn hits misses gd gf =
      elim (swaps_word m v.words a o n w done fail ad me nu) [
        | inl q ↦ record { effect = word_write a n done; computes = goes_on m s p (word_write a n done) low (ac ∙ q.0); acts = hits q.1; writes_well = (ad, kn); goes_well = gd }
        | inr q ↦ record { effect = no_write fail; computes = goes_on m s p (no_write fail) low (ac ∙ q.0); acts = misses q.1; writes_well = tt; goes_well = gf }
      ]

  -- the memory after a plain word was written
  plain_written : (a n : ℕ) → Address m a → Plain m n → memory_of (written (Some (WordWrite a n)) m) b σ.owner ≡ write mem a (plain n)
  plain_written a n x p = word_memory m b σ.owner a n x ∙ ap (write mem a) (plain_means m n v.rooms p)

  by_removal : (p : CodePosition) (a o n : ℕ) (c : CodeWord) (w : Word) (next : Next) → Address m a → access_at m s p ≡ remove m a c n next → number_of c ≡ Ok o → meaning (told o) ≡ w → number w ≡ o → Plain m n → publishing p next b ≡ b → (word_of m a ≡ w → Act s mem (position_of own p) (event_of (swap_of p) (Some (WordWrite a n)) next) (write mem a (plain n)) (place_of (going own next))) → (word_of m a ≢ w → Act s mem (position_of own p) (event_of (swap_of p) None next) mem (place_of (going own next))) → GoesWell own next → Moves σ s own p
  by_removal p a o n c w next ad ac nc me nu pl pb hits misses gw =
      by_swap p a o n w next next ad (ac ∙ removes m a o n c next nc pl) me nu (plain_known m n v.rooms pl)
      (λ h. onto (ap (λ y. memory_of (written (Some (WordWrite a n)) m) y σ.owner) pb ∙ plain_written a n ad pl) (hits h))
      (λ h. onto (ap (λ y. memory_of m y σ.owner) pb) (misses h))
      gw gw

  -- a proper descriptor
  module _ (d : ℕ) (pr : Proper m d) where
    abbrev x : Record
    x = record_at m d

    place : (1 ≤ d) × (d ≤ 4095)
    place = let t = taken_place m d pr.taken in let r = v.rooms.descriptors in (t.0, omega (arith, t.2))

    -- an access that reads the record first
    reads : (k : Record → Result Effect Refusal) → on_ok (descriptor_at m d) k ≡ k x
    reads k = ap (λ r. on_ok r k) pr.taken

    publishes : outcome_of d x.result ≡ Some Undecided → own ≡ true → Moves σ s own (Publish d)
    publishes u ow =
        by_swap (Publish d) x.first.address x.first.old (65536 + d) (plain x.first.old) (At (PlaceMark d)) (Ended FirstFailed) pr.task.first_address
        (reads _ ∙ installs m x.first.address x.first.old (65536 + d) (Descriptor d) (At (PlaceMark d)) (Ended FirstFailed) pr.task.first_old (descriptor_number d place.0 place.1))
        (plain_means m x.first.old v.rooms pr.task.first_old)
        refl
        (descriptor_known m d place.0 place.1 pr.taken)
        (λ h. onto (publish_memory m b σ.owner d (65536 + d) pr.task.first_address (ap meaning (told_descriptor d place.0 place.1)) u) (subst (λ y. Act s mem (at_publish d) silent (publish mem d) (at_place_mark d y)) (sym ow) (publish_hit h)))
        (λ h. publish_miss h)
        (tt, λ _. tt)
        tt

    places_mark : Moves σ s own (PlaceMark d)
    places_mark =
        by_swap (PlaceMark d) x.second.address x.second.old (131072 + 4096 * s + d) (plain x.second.old) (At (Decide d s true)) (At (ReRead d)) pr.task.second_address
        (reads _ ∙ installs m x.second.address x.second.old (131072 + 4096 * s + d) (Mark s d) (At (Decide d s true)) (At (ReRead d)) pr.task.second_old (mark_number s d low place.0 place.1))
        (plain_means m x.second.old v.rooms pr.task.second_old)
        refl
        (mark_known m s d low place.0 place.1 pr.taken)
        (λ h. onto (word_memory m b σ.owner x.second.address (131072 + 4096 * s + d) pr.task.second_address ∙ ap (write mem x.second.address) (ap meaning (told_mark s d low place.0 place.1))) (place_hit h))
        (λ h. place_miss h)
        (low, λ _. tt)
        (tt, λ _. tt)

    -- the descriptor, or a mark of it, makes way for a plain word
    removes_descriptor : (p : CodePosition) (n : ℕ) (next : Next) → access_at m s p ≡ remove m x.first.address (Descriptor d) n next → Plain m n → publishing p next b ≡ b → (word_of m x.first.address ≡ descriptor d → Act s mem (position_of own p) (event_of (swap_of p) (Some (WordWrite x.first.address n)) next) (write mem x.first.address (plain n)) (place_of (going own next))) → (word_of m x.first.address ≢ descriptor d → Act s mem (position_of own p) (event_of (swap_of p) None next) mem (place_of (going own next))) → GoesWell own next → Moves σ s own p
    removes_descriptor p n next ac pl pb hits misses gw =
        by_removal p x.first.address (65536 + d) n (Descriptor d) (descriptor d) next pr.task.first_address ac (descriptor_number d place.0 place.1) (ap meaning (told_descriptor d place.0 place.1)) refl pl pb hits misses gw

    removes_mark : (p : CodePosition) (t n : ℕ) (next : Next) → t ≤ 15 → access_at m s p ≡ remove m x.second.address (Mark t d) n next → Plain m n → publishing p next b ≡ b → (word_of m x.second.address ≡ mark d t → Act s mem (position_of own p) (event_of (swap_of p) (Some (WordWrite x.second.address n)) next) (write mem x.second.address (plain n)) (place_of (going own next))) → (word_of m x.second.address ≢ mark d t → Act s mem (position_of own p) (event_of (swap_of p) None next) mem (place_of (going own next))) → GoesWell own next → Moves σ s own p
    removes_mark p t n next k ac pl pb hits misses gw =
        by_removal p x.second.address (131072 + 4096 * t + d) n (Mark t d) (mark d t) next pr.task.second_address ac (mark_number t d k place.0 place.1) (ap meaning (told_mark t d k place.0 place.1)) refl pl pb hits misses gw

    gives_back : Moves σ s own (GiveBack d)
    gives_back = removes_descriptor (GiveBack d) x.first.old (end_of false) (reads _) pr.task.first_old refl (λ h. give_back_go (hit h)) (λ h. give_back_go (miss h)) tt

    finishes_first : (t : ℕ) → t ≤ 15 → Moves σ s own (FinishFirst d t)
    finishes_first t k = removes_descriptor (FinishFirst d t) x.first.new (At (FinishSecond d t)) (reads _) pr.task.first_new refl (λ h. finish_first_go (hit h)) (λ h. finish_first_go (miss h)) (k, λ _. tt)

    finishes_second : (t : ℕ) → t ≤ 15 → Moves σ s own (FinishSecond d t)
    finishes_second t k = removes_mark (FinishSecond d t) t x.second.new (At (WriteSuccess d t)) k (reads _) pr.task.second_new refl (λ h. finish_second_go (hit h)) (λ h. finish_second_go (miss h)) (k, λ _. tt)

    withdraws : (ok : Bool) → Moves σ s own (Withdraw d ok)
    withdraws true = removes_mark (Withdraw d true) s x.second.old (end_of true) low (reads _) pr.task.second_old refl (λ h. withdraw_go (hit h)) (λ h. withdraw_go (miss h)) tt
    withdraws false = removes_mark (Withdraw d false) s x.second.old (end_of false) low (reads _) pr.task.second_old refl (λ h. withdraw_go (hit h)) (λ h. withdraw_go (miss h)) tt

    cleans_up : (met : Met) → MetFits met → Moves σ s own (Clean d met)
    cleans_up by_descriptor k = removes_descriptor (Clean d by_descriptor) x.first.old (Ended Helped) (reads _) pr.task.first_old refl (λ h. clean_descriptor (hit h)) (λ h. clean_descriptor (miss h)) tt
    cleans_up (by_mark t) k = removes_mark (Clean d (by_mark t)) t x.second.old (Ended Helped) k (reads _) pr.task.second_old refl (λ h. clean_mark (hit h)) (λ h. clean_mark (miss h)) tt

    -- an access that writes nothing, and one that writes a result
    only_reads : (p : CodePosition) (next : Next) → access_at m s p ≡ Ok (no_write next) → publishing p next b ≡ b → Act s mem (position_of own p) (event_of (swap_of p) None next) mem (place_of (going own next)) → GoesWell own next → Moves σ s own p
    only_reads p next ac pb act gw = record { effect = no_write next; computes = goes_on m s p (no_write next) low ac; acts = onto (ap (λ y. memory_of m y σ.owner) pb) act; writes_well = tt; goes_well = gw }

    writes_result : (p : CodePosition) (r : ℕ) (next : Next) → access_at m s p ≡ Ok (result_write d r next) → publishing p next b ≡ b → Live (result_at m b d) → Act s mem (position_of own p) (event_of (swap_of p) (Some (ResultWrite d r)) next) (set_result mem d (outcome (b d) (outcome_of d r))) (place_of (going own next)) → GoesWell own next → Moves σ s own p
    writes_result p r next ac pb l act gw =
        record { effect = result_write d r next; computes = goes_on m s p (result_write d r next) low ac; acts = onto (ap (λ y. memory_of (written (Some (ResultWrite d r)) m) y σ.owner) pb ∙ result_memory m b σ.owner d r pr.taken) act; writes_well = (pr, l); goes_well = gw }

    -- the second word, read again
    re_read_access : (w : ℕ) (o : Option CodeWord) → told w ≡ o → word_at m x.second.address ≡ Ok w → access_at m s (ReRead d) ≡ Ok (no_write (At (re_reads d o)))
    re_read_access w o te e = reads _ ∙ ap (λ r. on_ok r (λ f. Ok (no_write (At (re_reads d (told f)))))) (found m v.words x.second.address w e) ∙ ap (λ y. Ok (no_write (At (re_reads d y)))) te

    word_is : (w : ℕ) (o : Option CodeWord) → told w ≡ o → word_at m x.second.address ≡ Ok w → word_of m x.second.address ≡ meaning o
    word_is w o te e = ap word_read e ∙ ap meaning te

    re_reads_as : (w : ℕ) (o : Option CodeWord) → told w ≡ o → word_at m x.second.address ≡ Ok w → Moves σ s own (ReRead d)
    re_reads_as w None te e = only_reads (ReRead d) (At (TryToFail d)) (re_read_access w None te e) refl (re_read_other (λ t q. plain_not_mark 0 d t (sym (word_is w None te e) ∙ q))) (tt, λ _. tt)
    re_reads_as w (Some Nil) te e = only_reads (ReRead d) (At (TryToFail d)) (re_read_access w (Some Nil) te e) refl (re_read_other (λ t q. plain_not_mark 0 d t (sym (word_is w (Some Nil) te e) ∙ q))) (tt, λ _. tt)
    re_reads_as w (Some (Node n)) te e = only_reads (ReRead d) (At (TryToFail d)) (re_read_access w (Some (Node n)) te e) refl (re_read_other (λ t q. plain_not_mark n d t (sym (word_is w (Some (Node n)) te e) ∙ q))) (tt, λ _. tt)
    re_reads_as w (Some (Descriptor f)) te e = only_reads (ReRead d) (At (TryToFail d)) (re_read_access w (Some (Descriptor f)) te e) refl (re_read_other (λ t q. descriptor_not_mark f d t (sym (word_is w (Some (Descriptor f)) te e) ∙ q))) (tt, λ _. tt)
    re_reads_as w (Some (Mark u f)) te e =
        elim (eqb_tells f d) [
          | inl q ↦ only_reads (ReRead d) (At (Decide d u false)) (re_read_access w (Some (Mark u f)) te e ∙ ap (λ y. Ok (no_write (At (cond y (Decide d u false) (TryToFail d))))) q.0) refl (re_read_mark u (word_is w (Some (Mark u f)) te e ∙ ap (λ y. mark y u) q.1)) (told_mark_fits w u f te, λ _. tt)
          | inr q ↦ only_reads (ReRead d) (At (TryToFail d)) (re_read_access w (Some (Mark u f)) te e ∙ ap (λ y. Ok (no_write (At (cond y (Decide d u false) (TryToFail d))))) q.0) refl (re_read_other (λ t z. other_mark f d u t q.1 (sym (word_is w (Some (Mark u f)) te e) ∙ z))) (tt, λ _. tt)
        ]

    re_reads_word : Moves σ s own (ReRead d)
    re_reads_word = let a = pr.task.second_address in re_reads_as a.0 (told a.0) refl a.1

    -- the result, by what the code finds
    module _ (live : Live (result_at m b d)) (o : CodeOutcome) (ro : outcome_of d x.result ≡ Some o) where
      result_is : result_at m b d ≡ outcome (b d) (Some o)
      result_is = ap (outcome (b d)) ro

      outcome_read : outcome_at m d ≡ Ok o
      outcome_read = outcomes m d o pr.taken ro

      found_undecided : o ≡ Undecided → result_at m b d ≡ undecided
      found_undecided q = let e : result_at m b d ≡ outcome (b d) (Some Undecided) = result_is ∙ ap (λ y. outcome (b d) (Some y)) q in e ∙ ap (λ y. outcome y (Some Undecided)) (live_published (b d) (subst Live e live))

    helped : (met : Met) → own ≡ false → Act s mem (at_read_result d (via_of met)) silent mem (at_place_mark d false) → Act s mem (at_read_result d (via_of met)) silent mem (at_place_mark d own)
    helped met ow act = subst (λ y. Act s mem (at_read_result d (via_of met)) silent mem (at_place_mark d y)) (sym ow) act

    reads_result : (met : Met) → MetFits met → own ≡ false → Live (result_at m b d) → (o : CodeOutcome) → outcome_of d x.result ≡ Some o → Moves σ s own (ReadResult d met)
    reads_result met k ow l Undecided ro = only_reads (ReadResult d met) (At (PlaceMark d)) (ap (λ r. on_ok r (λ f. Ok (no_write (At (helps d met f))))) (outcome_read l Undecided ro)) refl (helped met ow (read_open (λ c. subst Closed (found_undecided l Undecided ro refl) c))) (tt, λ _. tt)
    reads_result met k ow l Success ro = only_reads (ReadResult d met) (At (Clean d met)) (ap (λ r. on_ok r (λ f. Ok (no_write (At (helps d met f))))) (outcome_read l Success ro)) refl (read_closed (subst Closed (sym (result_is l Success ro)) tt)) ((ow, k), λ _. tt)
    reads_result met k ow l SecondFailed ro = only_reads (ReadResult d met) (At (Clean d met)) (ap (λ r. on_ok r (λ f. Ok (no_write (At (helps d met f))))) (outcome_read l SecondFailed ro)) refl (read_closed (subst Closed (sym (result_is l SecondFailed ro)) tt)) ((ow, k), λ _. tt)
    reads_result met k ow l (DecidedBy t) ro = only_reads (ReadResult d met) (At (PlaceMark d)) (ap (λ r. on_ok r (λ f. Ok (no_write (At (helps d met f))))) (outcome_read l (DecidedBy t) ro)) refl (helped met ow (read_open (λ c. subst Closed (result_is l (DecidedBy t) ro) c))) (tt, λ _. tt)

    tries_to_fail : Live (result_at m b d) → (o : CodeOutcome) → outcome_of d x.result ≡ Some o → Moves σ s own (TryToFail d)
    tries_to_fail l Undecided ro = writes_result (TryToFail d) 3 (At (GiveBack d)) (ap (λ r. on_ok r (λ f. Ok (fails d f))) (outcome_read l Undecided ro)) refl l (fail_undecided (found_undecided l Undecided ro refl)) (tt, λ _. tt)
    tries_to_fail l Success ro = only_reads (TryToFail d) (end_of true) (ap (λ r. on_ok r (λ f. Ok (fails d f))) (outcome_read l Success ro)) refl (fail_success (subst (EndedWith true) (sym (result_is l Success ro)) refl)) tt
    tries_to_fail l SecondFailed ro = only_reads (TryToFail d) (At (GiveBack d)) (ap (λ r. on_ok r (λ f. Ok (fails d f))) (outcome_read l SecondFailed ro)) refl (fail_failed (result_is l SecondFailed ro)) (tt, λ _. tt)
    tries_to_fail l (DecidedBy t) ro = only_reads (TryToFail d) (At (FinishFirst d t)) (ap (λ r. on_ok r (λ f. Ok (fails d f))) (outcome_read l (DecidedBy t) ro)) refl (fail_won t (result_is l (DecidedBy t) ro)) (outcome_mark_fits d x.result t ro, λ _. tt)

    -- the result is found, and the mark has a number
    decide_access : (t : ℕ) (placed : Bool) (o : CodeOutcome) → t ≤ 15 → Live (result_at m b d) → outcome_of d x.result ≡ Some o → access_at m s (Decide d t placed) ≡ Ok (decides (131072 + 4096 * t + d) d t placed o)
    decide_access t placed o k l ro = ap (λ r. on_ok r (λ w. on_ok (outcome_at m d) (λ f. Ok (decides w d t placed f)))) (mark_number t d k place.0 place.1) ∙ ap (λ r. on_ok r (λ f. Ok (decides (131072 + 4096 * t + d) d t placed f))) (outcome_read l o ro)

    decides_it : (t : ℕ) (placed : Bool) → t ≤ 15 → Live (result_at m b d) → (o : CodeOutcome) → outcome_of d x.result ≡ Some o → Moves σ s own (Decide d t placed)
    decides_it t placed k l Undecided ro =
        writes_result (Decide d t placed) (131072 + 4096 * t + d) (At (FinishFirst d t)) (decide_access t placed Undecided k l ro) refl l
        (onto_event (mark_decides t d) (onto (ap (λ y. set_result mem d (outcome (b d) y)) (outcome_mark t d k place.0 place.1)) (decide_wins (found_undecided l Undecided ro refl))))
        (k, λ _. tt)
    decides_it t placed k l (DecidedBy r) ro = only_reads (Decide d t placed) (At (FinishFirst d r)) (decide_access t placed (DecidedBy r) k l ro) refl (decide_won r (result_is l (DecidedBy r) ro)) (outcome_mark_fits d x.result r ro, λ _. tt)
    decides_it t true k l Success ro = only_reads (Decide d t true) (At (Withdraw d true)) (decide_access t true Success k l ro) refl (decide_late true (subst (EndedWith true) (sym (result_is l Success ro)) refl)) (tt, λ _. tt)
    decides_it t false k l Success ro = only_reads (Decide d t false) (end_of true) (decide_access t false Success k l ro) refl (decide_ended true (subst (EndedWith true) (sym (result_is l Success ro)) refl)) tt
    decides_it t true k l SecondFailed ro = only_reads (Decide d t true) (At (Withdraw d false)) (decide_access t true SecondFailed k l ro) refl (decide_late false (subst (EndedWith false) (sym (result_is l SecondFailed ro)) refl)) (tt, λ _. tt)
    decides_it t false k l SecondFailed ro = only_reads (Decide d t false) (end_of false) (decide_access t false SecondFailed k l ro) refl (decide_ended false (subst (EndedWith false) (sym (result_is l SecondFailed ro)) refl)) tt

    writes_success : (t : ℕ) → Live (result_at m b d) → Moves σ s own (WriteSuccess d t)
    writes_success t l = writes_result (WriteSuccess d t) 2 (end_of true) (reads _) refl l write_success_go tt

  -- every position
  by_position : (p : CodePosition) → Fits own p → Prepared m p → Knows mem s (position_of own p) → Moves σ s own p
  by_position (Publish d) f pp k = publishes d pp.0 pp.1 f
  by_position (ReadResult d met) f pp k = let y = live_some (b d) _ k in reads_result d (v.live d k) met f.1 f.0 k y.0 y.1
  by_position (Clean d met) f pp k = cleans_up d (v.live d (closed_live _ k)) met f.1
  by_position (PlaceMark d) f pp k = places_mark d (v.live d k)
  by_position (ReRead d) f pp k = re_reads_word d (v.live d k)
  by_position (TryToFail d) f pp k = let y = live_some (b d) _ k in tries_to_fail d (v.live d k) k y.0 y.1
  by_position (GiveBack d) f pp k = gives_back d (v.live d (ended_live false _ k))
  by_position (Decide d t placed) f pp k = let y = live_some (b d) _ k.0 in decides_it d (v.live d k.0) t placed f k.0 y.0 y.1
  by_position (FinishFirst d t) f pp k = finishes_first d (v.live d (won_live t _ k.0)) t f
  by_position (FinishSecond d t) f pp k = finishes_second d (v.live d (won_live t _ k.0)) t f
  by_position (WriteSuccess d t) f pp k = writes_success d (v.live d (won_live t _ k.0)) t (won_live t _ k.0)
  by_position (Withdraw d ok) f pp k = withdraws d (v.live d (ended_live ok _ k)) ok

-- a scanner that stands at a position makes a step of the machine
pub moves : (σ : System) → Valid σ → Invariant (abstracted σ) → (s : ℕ) (own : Bool) (p : CodePosition) → σ.standing s ≡ working own p → Moves σ s own p
moves σ v inv s own p e =
    let h : Stands σ.tables s (working own p) = subst (Stands σ.tables s) e (v.stands s) in
    let k : Knows (abstracted σ).memory s (position_of own p) = subst (λ y. Knows (abstracted σ).memory s (place_of y)) e (inv.knows s) in
    by_position σ v s h.0 own p h.1 h.2 k
