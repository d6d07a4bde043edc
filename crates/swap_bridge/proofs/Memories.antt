-- The machine's memory after a write to the tables.
use Rattle.std.proofs.Common.{Some, ◌≡◌, ℕ, ◌+◌, ◌≤◌, Bool, true, false, ◌≢◌, length, Ok, sym, refl, ap, ◌∙◌, arith}
use mathlib.Core.Path.{fun_ext}
use native.Mathlib.Decide.{ℕ_discrete}
use Rattle.words.specs.Words.{told}
use Rattle.records.specs.declared.entries.Node.{Node}
use Rattle.records.specs.declared.entries.Descriptor.{Descriptor as Record}
use Rattle.memory.specs.Seen.{Seen}
use Rattle.memory.specs.Reads.{descriptor_at}
use Rattle.memory.specs.declared.meaning.Outcome.TheVariants.{Undecided}
use Rattle.memory.specs.Meaning.{outcome_of}
use Rattle.swap_access.specs.declared.effect.Write.TheVariants.{Word as WordWrite, Result as ResultWrite}
use Rattle.swap_step.specs.Steps.{written}
use Rattle.swap_step.specs.Writes.{with_result}
use Rattle.swap_machine.specs.Update.{update}
use Rattle.swap_machine.specs.Machine.{Word, Outcome, fresh, undecided, Fields, Owner, scanner, Memory, write, set_result, prepare, publish, descriptor}
use Rattle.swap_bridge.specs.Abstraction.{meaning, word_read, word_of, or_zero, record_at, outcome, result_at, fields_of, memory_of}
use Rattle.swap_bridge.specs.Valid.{Address}
use Rattle.swap_bridge.specs.Does.{filled, grown}
use Rattle.swap_bridge.proofs.Tables.{grown_here, grown_there, wrote_here, wrote_there, filled_here, filled_there, taken_place, written_result}

pub upd_same : {A : Type 0} (f : ℕ → A) (k : ℕ) (v : A) (x : ℕ) → x ≡ k → update f k v x ≡ v
upd_same f k v x e = grind arith

pub upd_other : {A : Type 0} (f : ℕ → A) (k : ℕ) (v : A) (x : ℕ) → x ≢ k → update f k v x ≡ f x
upd_other f k v x h = grind arith

-- a function that has v at k and else is as f is the update
pub updated : {A : Type 0} (f g : ℕ → A) (k : ℕ) (v : A) → g k ≡ v → ((x : ℕ) → x ≢ k → g x ≡ f x) → g ≡ update f k v
updated f g k v here there =
    fun_ext (λ x.
    elim (ℕ_discrete x k) [
      | yes e ↦ ap g e ∙ here ∙ sym (upd_same f k v x e)
      | no h ↦ there x h ∙ sym (upd_other f k v x h)
    ])

memory_path : {w w' : ℕ → Word} {r r' : ℕ → Outcome} {f f' : ℕ → Fields} {o : ℕ → Owner} → w ≡ w' → r ≡ r' → f ≡ f' → ◌≡◌ {A = Memory} (record { word = w; result = r; fields = f; owner = o }) (record { word = w'; result = r'; fields = f'; owner = o })
memory_path {o = o} p q s = λ i. record { word = p i; result = q i; fields = s i; owner = o }

module _ (m : Seen) (b : ℕ → Bool) (o : ℕ → Owner) where
  word_updated : (a w : ℕ) → Address m a → word_of (written (Some (WordWrite a w)) m) ≡ update (word_of m) a (meaning (told w))
  word_updated a w x = updated (word_of m) (word_of (written (Some (WordWrite a w)) m)) a (meaning (told w)) (ap word_read (wrote_here m a w x)) (λ c h. ap word_read (wrote_there m a c w (λ q. h (sym q))))

  -- a written word
  pub word_memory : (a w : ℕ) → Address m a → memory_of (written (Some (WordWrite a w)) m) b o ≡ write (memory_of m b o) a (meaning (told w))
  word_memory a w x = memory_path (word_updated a w x) refl refl

  -- one more node
  pub grown_memory : (x : Node) → m.nodes_taken + 1 ≤ length m.nodes → length m.nodes ≤ 4095 → memory_of (grown m x) b o ≡ write (memory_of m b o) (64 + (m.nodes_taken + 1)) (meaning (told x.next))
  grown_memory x h r =
      memory_path (updated (word_of m) (word_of (grown m x)) (64 + (m.nodes_taken + 1)) (meaning (told x.next)) (ap word_read (grown_here m x h r)) (λ c n. ap word_read (grown_there m x c n))) refl refl

  -- a written descriptor, at its first address
  pub publish_memory : (d w : ℕ) → Address m (record_at m d).first.address → meaning (told w) ≡ descriptor d → outcome_of d (record_at m d).result ≡ Some Undecided → memory_of (written (Some (WordWrite (record_at m d).first.address w)) m) (update b d true) o ≡ publish (memory_of m b o) d
  publish_memory d w x e u =
      memory_path
      (word_updated (record_at m d).first.address w x ∙ ap (update (word_of m) (record_at m d).first.address) e)
      (updated (result_at m b) (result_at m (update b d true)) d undecided
      (ap (λ y. outcome y (outcome_of d (record_at m d).result)) (upd_same b d true d refl) ∙ ap (outcome true) u)
      (λ f h. ap (λ y. outcome y (outcome_of f (record_at m f).result)) (upd_other b d true f h)))
      refl

  record_here : (d : ℕ) (x : Record) → 1 ≤ d → d ≤ length m.descriptors → record_at (filled m d x) d ≡ x
  record_here d x l h = ap or_zero (filled_here m d x l h)

  record_there : (d f : ℕ) (x : Record) → 1 ≤ d → d ≤ m.descriptors_taken + 1 → f ≢ d → record_at (filled m d x) f ≡ record_at m f
  record_there d f x l h n = ap or_zero (filled_there m d f x l h n)

  -- a written result
  pub result_memory : (d r : ℕ) → descriptor_at m d ≡ Ok (record_at m d) → memory_of (written (Some (ResultWrite d r)) m) b o ≡ set_result (memory_of m b o) d (outcome (b d) (outcome_of d r))
  result_memory d r e =
      let p = taken_place m d e in
      let x : Record = with_result (record_at m d) r in
      let k : d ≤ m.descriptors_taken + 1 = omega (arith, p.1) in
      ap (λ n. memory_of n b o) (written_result m d r e)
      ∙ memory_path refl
      (updated (result_at m b) (result_at (filled m d x) b) d (outcome (b d) (outcome_of d r))
      (ap (λ y. outcome (b d) (outcome_of d y.result)) (record_here d x p.0 p.2))
      (λ f h. ap (λ y. outcome (b f) (outcome_of f y.result)) (record_there d f x p.0 k h)))
      (fun_ext (λ f.
      elim (ℕ_discrete f d) [
        | yes q ↦ ap (λ g. fields_of (record_at (filled m d x) g)) q ∙ ap fields_of (record_here d x p.0 p.2) ∙ ap (λ g. fields_of (record_at m g)) (sym q)
        | no h ↦ ap fields_of (record_there d f x p.0 k h)
      ]))

  -- a prepared swap
  pub prepare_memory : (s d : ℕ) (x : Record) → 1 ≤ d → d ≤ m.descriptors_taken + 1 → d ≤ length m.descriptors → result_at m b d ≡ fresh → b d ≡ false → x.result ≡ 1 → memory_of (filled m d x) b (update o d (scanner s)) ≡ prepare (memory_of m b o) s d (fields_of x)
  prepare_memory s d x l k h f nb e =
      memory_path refl
      (fun_ext (λ g.
      elim (ℕ_discrete g d) [
        | yes q ↦ ap (result_at (filled m d x) b) q ∙ ap (λ y. outcome (b d) (outcome_of d y.result)) (record_here d x l h) ∙ ap (λ r. outcome (b d) (outcome_of d r)) e ∙ ap (λ y. outcome y (Some Undecided)) nb ∙ sym f ∙ ap (result_at m b) (sym q)
        | no n ↦ ap (λ y. outcome (b g) (outcome_of g y.result)) (record_there d g x l k n)
      ]))
      (updated (λ g. fields_of (record_at m g)) (λ g. fields_of (record_at (filled m d x) g)) d (fields_of x) (ap fields_of (record_here d x l h)) (λ g n. ap fields_of (record_there d g x l k n)))
