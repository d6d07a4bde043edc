-- What the accesses of the code find and do.
use Rattle.std.proofs.Common.{◌≡◌, ℕ, ◌+◌, ◌*◌, ◌≤◌, cond, eqb, ◌≢◌, ◌⊎◌, Some, None, Ok, Err, Option, sym, refl, ap, ◌∙◌, subst, inl, inr, arith}
use Rattle.std.proofs.lemmas.Bool.Decides.{nat_tests, eqb_tells, leb_tells}
use Rattle.refusals.specs.declared.refusal.Refusal.TheVariants.{Torn}
use Rattle.words.specs.declared.word.Word.{Word as CodeWord}
use Rattle.words.specs.declared.word.Word.TheVariants.{Nil, Node, Descriptor, Mark}
use Rattle.words.specs.Words.{told}
use Rattle.memory.specs.Seen.{Seen}
use Rattle.memory.specs.Reads.{on_ok, descriptor_at, word_at}
use Rattle.memory.specs.declared.meaning.Outcome.{Outcome as CodeOutcome}
use Rattle.memory.specs.Meaning.{plain as plain_read, outcome_of}
use Rattle.swap_access.specs.declared.effect.Effect.{Effect}
use Rattle.swap_access.specs.declared.position.Next.{Next}
use Rattle.swap_access.specs.declared.position.Position.{Position as CodePosition}
use Rattle.swap_access.specs.Effects.{no_write, word_write}
use Rattle.swap_access.specs.Found.{known, found_at, number_of, or_torn, outcome_at}
use Rattle.swap_access.specs.Accesses.{swap_word, install, remove}
use Rattle.swap.specs.Dispatch.{decided, access_at}
use Rattle.swap_machine.specs.Machine.{Word, plain}
use Rattle.swap_bridge.specs.Abstraction.{meaning, word_read, word_of, record_at}
use Rattle.swap_bridge.specs.Valid.{Address, Plain, Rooms}
use Rattle.swap_bridge.proofs.Words.{number, told_number, told_plain}
use Rattle.swap_bridge.proofs.Tables.{Like}

-- a plain word is a word
pub plain_low : (m : Seen) (w : ℕ) → Rooms m → Plain m w → w ≤ 4095
plain_low m w r p = grind (arith, nat_tests)

pub plain_known : (m : Seen) (w : ℕ) → Rooms m → Plain m w → known m w (told w) ≡ Ok w
plain_known m w r p = let l = plain_low m w r p in grind (arith, nat_tests)

pub plain_means : (m : Seen) (w : ℕ) → Rooms m → Plain m w → meaning (told w) ≡ plain w
plain_means m w r p = told_plain w (plain_low m w r p)

-- what is kept by tables that are like others
pub plain_kept : {m m' : Seen} (w : ℕ) → Like m m' → Plain m w → Plain m' w
plain_kept {m} {m'} w k p = let q = k.nodes w in grind (arith, nat_tests)

pub known_kept : {m m' : Seen} (w : ℕ) (o : Option CodeWord) → Like m m' → known m w o ≡ Ok w → known m' w o ≡ Ok w
known_kept w None k e = grind arith
known_kept w (Some Nil) k e = refl
known_kept w (Some (Node n)) k e = let q = k.nodes n in grind (arith, nat_tests)
known_kept w (Some (Descriptor d)) k e = let q = k.descriptors d in grind (arith, nat_tests)
known_kept w (Some (Mark s d)) k e = let q = k.descriptors d in grind (arith, nat_tests)

-- descriptors and marks have their numbers
pub descriptor_number : (d : ℕ) → 1 ≤ d → d ≤ 4095 → number_of (Descriptor d) ≡ Ok (65536 + d)
descriptor_number d l h = grind (arith, nat_tests)

pub mark_number : (s d : ℕ) → s ≤ 15 → 1 ≤ d → d ≤ 4095 → number_of (Mark s d) ≡ Ok (131072 + 4096 * s + d)
mark_number s d k l h = grind (arith, nat_tests)

-- the code goes on for a scanner that can have a mark
pub goes_on : (m : Seen) (s : ℕ) (p : CodePosition) (f : Effect) → s ≤ 15 → access_at m s p ≡ Ok f → decided m s p ≡ Ok f
unfolding decided
goes_on m s p f k e = elim (leb_tells s 15) [ inl t ↦ ap (λ b. cond b (access_at m s p) (Err Torn)) t.0 ∙ e | inr t ↦ absurd (omega (arith, t.1)) ]

not_none : (m : Seen) (w : ℕ) (o : Option CodeWord) → known m w o ≡ Ok w → o ≢ None
not_none m w o e q = let z : Err Torn ≡ Ok w = subst (λ x. known m w x ≡ Ok w) q e in grind arith

pub found : (m : Seen) → ((a w : ℕ) → word_at m a ≡ Ok w → known m w (told w) ≡ Ok w) → (a w : ℕ) → word_at m a ≡ Ok w → found_at m a ≡ Ok w
unfolding found_at
found m k a w e = ap (λ r. on_ok r (λ w. known m w (told w))) e ∙ k a w e

-- a swap of one word: it finds the old word and writes, or it finds another
pub swaps_word : (m : Seen) → ((a w : ℕ) → word_at m a ≡ Ok w → known m w (told w) ≡ Ok w) → (a o n : ℕ) (v : Word) (done failed : Next) → Address m a → meaning (told o) ≡ v → number v ≡ o → ((swap_word m a o n done failed ≡ Ok (word_write a n done)) × (word_of m a ≡ v)) ⊎ ((swap_word m a o n done failed ≡ Ok (no_write failed)) × (word_of m a ≢ v))
unfolding swap_word
swaps_word m k a o n v done failed (w, e) t u =
    let g = ap (λ r. on_ok r (λ x. Ok (cond (eqb x o) (word_write a n done) (no_write failed)))) (found m k a w e) in
    elim (eqb_tells w o) [
      | inl q ↦ inl (g ∙ ap (λ b. Ok (cond b (word_write a n done) (no_write failed))) q.0, ap word_read e ∙ ap (λ x. meaning (told x)) q.1 ∙ t)
      | inr q ↦ inr (g ∙ ap (λ b. Ok (cond b (word_write a n done) (no_write failed))) q.0, λ h. q.1 (sym (told_number w (not_none m w (told w) (k a w e))) ∙ ap number (sym (ap word_read e) ∙ h) ∙ u))
    ]

pub installs : (m : Seen) (a o n : ℕ) (v : CodeWord) (done failed : Next) → Plain m o → number_of v ≡ Ok n → install m a o v done failed ≡ swap_word m a o n done failed
unfolding install
installs m a o n v done failed p q = ap (λ r. on_ok r (λ x. on_ok (number_of v) (λ y. swap_word m a x y done failed))) p ∙ ap (λ r. on_ok r (λ y. swap_word m a o y done failed)) q

pub removes : (m : Seen) (a o n : ℕ) (v : CodeWord) (next : Next) → number_of v ≡ Ok o → Plain m n → remove m a v n next ≡ swap_word m a o n next next
unfolding remove
removes m a o n v next p q = ap (λ r. on_ok r (λ x. on_ok (plain_read m n) (λ y. swap_word m a x y next next))) p ∙ ap (λ r. on_ok r (λ y. swap_word m a o y next next)) q

pub outcomes : (m : Seen) (d : ℕ) (o : CodeOutcome) → descriptor_at m d ≡ Ok (record_at m d) → outcome_of d (record_at m d).result ≡ Some o → outcome_at m d ≡ Ok o
unfolding outcome_at
outcomes m d o e q = ap (λ r. on_ok r (λ x. or_torn (outcome_of d x.result))) e ∙ ap or_torn q
