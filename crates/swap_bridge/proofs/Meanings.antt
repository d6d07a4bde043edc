-- What words stand for, to the code and to the machine.
use Rattle.std.proofs.Common.{◌≡◌, ℕ, Bool, true, false, cond, eqb, ◌≢◌, Some, None, Ok, Option, Result, sym, refl, ap, ◌∙◌, subst, arith}
use Rattle.std.proofs.lemmas.Bool.Decides.{nat_tests}
use Rattle.refusals.specs.declared.refusal.Refusal.{Refusal}
use Rattle.words.specs.declared.word.Word.{Word as CodeWord}
use Rattle.words.specs.declared.word.Word.TheVariants.{Nil, Node, Descriptor, Mark}
use Rattle.words.specs.Words.{told}
use Rattle.records.specs.declared.entries.Descriptor.{Descriptor as Record}
use Rattle.memory.specs.Seen.{Seen}
use Rattle.memory.specs.Reads.{on_ok, word_at}
use Rattle.memory.specs.declared.meaning.Outcome.{Outcome as CodeOutcome}
use Rattle.memory.specs.declared.meaning.Outcome.TheVariants.{Undecided, Success, SecondFailed, DecidedBy}
use Rattle.memory.specs.Meaning.{plain as plain_read, outcome_of, first_word, second_word, meant, stands_for as code_stands_for}
use Rattle.swap_access.specs.Found.{known}
use Rattle.swap_machine.specs.Machine.{Outcome, descriptor, Memory}
use Rattle.swap_machine.specs.Meaning.{first_value, second_value, value, stands_for}
use Rattle.swap_machine.specs.Invariant.{Live, Installable, InPlace, Invariant}
use Rattle.swap_bridge.specs.Systems.{System}
use Rattle.swap_bridge.specs.Abstraction.{meaning, word_read, word_of, record_at, outcome, result_at, fields_of, abstracted}
use Rattle.swap_bridge.specs.Valid.{Plain, Valid}
use Rattle.swap_bridge.proofs.Words.{number, told_number}
use Rattle.swap_bridge.proofs.Moves.{live_some}

first_agrees : (x : Record) (b : Bool) (o : CodeOutcome) → (first_word x (Some o) ≡ Ok (first_value (fields_of x) (outcome b (Some o)))) × ((m : Seen) → Plain m x.first.old → Plain m x.first.new → Plain m (first_value (fields_of x) (outcome b (Some o))))
first_agrees x true Undecided = (refl, λ m p q. p)
first_agrees x false Undecided = (refl, λ m p q. p)
first_agrees x b Success = (refl, λ m p q. q)
first_agrees x b SecondFailed = (refl, λ m p q. p)
first_agrees x b (DecidedBy t) = (refl, λ m p q. q)

-- of the mark of scanner s, which decided if c says so
mark_agrees : (x : Record) (c : Bool) → ◌≡◌ {A = Result ℕ Refusal} (cond c (Ok x.second.new) (Ok x.second.old)) (Ok (cond c x.second.new x.second.old)) × ((m : Seen) → Plain m x.second.old → Plain m x.second.new → Plain m (cond c x.second.new x.second.old))
mark_agrees x true = (refl, λ m p q. q)
mark_agrees x false = (refl, λ m p q. p)

second_agrees : (s : ℕ) (x : Record) (b : Bool) (o : CodeOutcome) → (second_word s x (Some o) ≡ Ok (second_value (fields_of x) s (outcome b (Some o)))) × ((m : Seen) → Plain m x.second.old → Plain m x.second.new → Plain m (second_value (fields_of x) s (outcome b (Some o))))
second_agrees s x true Undecided = (refl, λ m p q. p)
second_agrees s x false Undecided = (refl, λ m p q. p)
second_agrees s x b Success = (refl, λ m p q. p)
second_agrees s x b SecondFailed = (refl, λ m p q. p)
second_agrees s x b (DecidedBy t) = mark_agrees x (eqb t s)

installable_live : (r : Outcome) → Installable r → Live r
installable_live r i = grind arith

nil_plain : (m : Seen) (w : ℕ) → w ≡ 0 → Plain m w
nil_plain m w e = grind (arith, nat_tests)

node_plain : (m : Seen) (w n : ℕ) → w ≡ n → known m w (Some (Node n)) ≡ Ok w → Plain m w
node_plain m w n e k = grind (arith, nat_tests)

module _ (σ : System) (v : Valid σ) (inv : Invariant (abstracted σ)) where
  abbrev m : Seen
  m = σ.tables

  abbrev mem : Memory
  mem = (abstracted σ).memory

  stands_as : (a w : ℕ) (o : Option CodeWord) → told w ≡ o → word_at m a ≡ Ok w → known m w o ≡ Ok w → number (meaning o) ≡ w → InPlace mem a (meaning o) → code_stands_for m w ≡ Ok (value mem (meaning o))
  stands_as a w None te e k nu ip = grind arith
  stands_as a w (Some Nil) te e k nu ip = ap (λ y. on_ok (meant m w y) (plain_read m)) te ∙ nil_plain m w (sym nu) ∙ ap Ok (sym nu)
  stands_as a w (Some (Node n)) te e k nu ip = ap (λ y. on_ok (meant m w y) (plain_read m)) te ∙ node_plain m w n (sym nu) k ∙ ap Ok (sym nu)
  stands_as a w (Some (Descriptor d)) te e k nu ip =
      let l : Live (result_at m σ.published d) = installable_live _ ip.1 in
      let pr = v.live d l in
      let y = live_some (σ.published d) (outcome_of d (record_at m d).result) l in
      let g = first_agrees (record_at m d) (σ.published d) y.0 in
      ap (λ z. on_ok (meant m w z) (plain_read m)) te
      ∙ ap (λ z. on_ok (on_ok z (λ r. first_word r (outcome_of d r.result))) (plain_read m)) pr.taken
      ∙ ap (λ z. on_ok (first_word (record_at m d) z) (plain_read m)) y.1
      ∙ ap (λ z. on_ok z (plain_read m)) g.0
      ∙ g.1 m pr.task.first_old pr.task.first_new
      ∙ ap (λ z. Ok (first_value (fields_of (record_at m d)) (outcome (σ.published d) z))) (sym y.1)
  stands_as a w (Some (Mark s d)) te e k nu ip =
      let l : Live (result_at m σ.published d) = ip.1 in
      let pr = v.live d l in
      let y = live_some (σ.published d) (outcome_of d (record_at m d).result) l in
      let g = second_agrees s (record_at m d) (σ.published d) y.0 in
      ap (λ z. on_ok (meant m w z) (plain_read m)) te
      ∙ ap (λ z. on_ok (on_ok z (λ r. second_word s r (outcome_of d r.result))) (plain_read m)) pr.taken
      ∙ ap (λ z. on_ok (second_word s (record_at m d) z) (plain_read m)) y.1
      ∙ ap (λ z. on_ok z (plain_read m)) g.0
      ∙ g.1 m pr.task.second_old pr.task.second_new
      ∙ ap (λ z. Ok (second_value (fields_of (record_at m d)) s (outcome (σ.published d) z))) (sym y.1)

  no_none : (w : ℕ) (o : Option CodeWord) → known m w o ≡ Ok w → o ≢ None
  no_none w o e q = let z : known m w None ≡ Ok w = subst (λ x. known m w x ≡ Ok w) q e in grind arith

  pub stands_for_same : (a w : ℕ) → word_at m a ≡ Ok w → code_stands_for m w ≡ Ok (stands_for mem a)
  stands_for_same a w e =
      let k = v.words a w e in
      let q : word_of m a ≡ meaning (told w) = ap word_read e in
      stands_as a w (told w) refl e k (told_number w (no_none w (told w) k)) (subst (InPlace mem a) q (inv.sound.in_place a)) ∙ ap (λ z. Ok (value mem z)) (sym q)

installable_published : (b : Bool) → Installable (outcome b (Some Undecided)) → b ≡ true
installable_published true i = refl
installable_published false i = absurd i

pub published_seen : (σ : System) → Invariant (abstracted σ) → (d : ℕ) → outcome_of d (record_at σ.tables d).result ≡ Some Undecided → (σ.published d ≡ true → word_of σ.tables (record_at σ.tables d).first.address ≡ descriptor d) × (word_of σ.tables (record_at σ.tables d).first.address ≡ descriptor d → σ.published d ≡ true)
published_seen σ inv d u = (
  λ p. inv.sound.installed d (ap (outcome (σ.published d)) u ∙ ap (λ z. outcome z (Some Undecided)) p),
  λ q.
      let i : InPlace (abstracted σ).memory (record_at σ.tables d).first.address (descriptor d) = subst (InPlace (abstracted σ).memory (record_at σ.tables d).first.address) q (inv.sound.in_place (record_at σ.tables d).first.address) in
      installable_published (σ.published d) (subst Installable (ap (outcome (σ.published d)) u) i.1),
)
