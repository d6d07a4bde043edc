-- What a write leaves of the tables.
use Rattle.std.proofs.Common.{None, Option, Some, ◌≡◌, ℕ, ◌+◌, ◌-◌, ◌≤◌, max, true, false, cond, ◌&&◌, leb, ◌≢◌, List, length, get_or, set, Ok, Err, sym, refl, ap, ◌∙◌, subst, inl, inr, arith, length-set, get_or-set_other, get_or-set_same}
use native.Mathlib.Decide.{ℕ_discrete}
use Rattle.std.proofs.lemmas.Bool.Decides.{nat_tests, leb_tells}
use Rattle.refusals.specs.declared.refusal.Refusal.TheVariants.{Torn}
use Rattle.records.specs.declared.entries.Node.{Node}
use Rattle.records.specs.declared.entries.Descriptor.{Descriptor as Record}
use Rattle.records.specs.Tables.{zero_node}
use Rattle.memory.specs.declared.address.Address.{Address as Place}
use Rattle.memory.specs.declared.address.Address.TheVariants.{TrayWord, NextWord}
use Rattle.memory.specs.Addresses.{addressed}
use Rattle.memory.specs.Seen.{Seen, seen}
use Rattle.memory.specs.Places.{is_taken}
use Rattle.memory.specs.Reads.{on_ok, node_at, descriptor_at, word_in, word_at}
use Rattle.memory.specs.Writes.{tray_word, next_word}
use Rattle.swap_access.specs.declared.effect.Write.TheVariants.{Word as WordWrite, Result as ResultWrite}
use Rattle.swap_step.specs.Steps.{written}
use Rattle.swap_step.specs.Writes.{with_result, results_with}
use Rattle.swap_bridge.specs.Abstraction.{record_at}
use Rattle.swap_bridge.specs.Valid.{Address}
use Rattle.swap_bridge.specs.Does.{filled, grown}

-- an address by its place
pub data Placed (a : ℕ) : Option Place → Type 0 where
  tray : a ≤ 63 → Placed a (Some (TrayWord a))
  next : (n : ℕ) → 1 ≤ n → n ≤ 4095 → a ≡ 64 + n → Placed a (Some (NextWord n))
  none : Placed a None

pub placed : (a : ℕ) → Placed a (addressed a)
placed a =
    elim (leb_tells a 63) [
      | inl p ↦ subst (λ b. Placed a (cond b (Some (TrayWord a)) (cond (leb 65 a && leb a 4159) (Some (NextWord (a - 64))) None))) (sym p.0) (tray p.1)
      | inr p ↦ subst (λ b. Placed a (cond b (Some (TrayWord a)) (cond (leb 65 a && leb a 4159) (Some (NextWord (a - 64))) None))) (sym p.0)
          (elim (leb_tells 65 a) [
            | inl q ↦ subst (λ b. Placed a (cond (b && leb a 4159) (Some (NextWord (a - 64))) None)) (sym q.0)
                (elim (leb_tells a 4159) [
                  | inl r ↦ subst (λ b. Placed a (cond b (Some (NextWord (a - 64))) None)) (sym r.0) (next (a - 64) (omega arith) (omega arith) (omega arith))
                  | inr r ↦ subst (λ b. Placed a (cond b (Some (NextWord (a - 64))) None)) (sym r.0) none
                ])
            | inr q ↦ subst (λ b. Placed a (cond (b && leb a 4159) (Some (NextWord (a - 64))) None)) (sym q.0) none
          ])
    ]

-- the tables with word w at a place
abbrev pub put : Seen → Option Place → ℕ → Seen
put m p w = seen (tray_word m.words p w) (next_word m.nodes 4095 p w) m.nodes_taken m.descriptors m.descriptors_taken

put_here : (m : Seen) (a w x : ℕ) (p : Option Place) → Placed a p → word_in m p ≡ Ok x → word_in (put m p w) p ≡ Ok w
put_here m a w x (Some (TrayWord i)) (tray l) e = grind (arith, nat_tests, length-set, get_or-set_same)
put_here m a w x (Some (NextWord n)) (next _ l h q) e = grind (arith, nat_tests, length-set, get_or-set_same)
put_here m a w x None none e = grind arith

put_there : (m : Seen) (a b w : ℕ) (p q : Option Place) → Placed a p → Placed b q → a ≢ b → word_in (put m p w) q ≡ word_in m q
put_there m a b w (Some (TrayWord i)) (Some (TrayWord j)) (tray l) (tray k) ne = grind (arith, nat_tests, length-set, get_or-set_other)
put_there m a b w (Some (TrayWord i)) (Some (NextWord j)) (tray l) (next _ _ _ _) ne = refl
put_there m a b w (Some (TrayWord i)) None (tray l) none ne = refl
put_there m a b w (Some (NextWord i)) (Some (TrayWord j)) (next _ _ _ _) (tray k) ne = refl
put_there m a b w (Some (NextWord i)) (Some (NextWord j)) (next _ l1 h1 q1) (next _ l2 h2 q2) ne = grind (arith, nat_tests, length-set, get_or-set_other)
put_there m a b w (Some (NextWord i)) None (next _ _ _ _) none ne = refl
put_there m a b w None q none k ne = refl

pub wrote_here : (m : Seen) (a w : ℕ) → Address m a → word_at (written (Some (WordWrite a w)) m) a ≡ Ok w
wrote_here m a w (x, e) = put_here m a w x (addressed a) (placed a) e

pub wrote_there : (m : Seen) (a b w : ℕ) → a ≢ b → word_at (written (Some (WordWrite a w)) m) b ≡ word_at m b
wrote_there m a b w h = put_there m a b w (addressed a) (addressed b) (placed a) (placed b) h

-- what is taken and what can be read is so afterwards
pub record Like (m m' : Seen) : Type 0 where
  pub nodes : (n : ℕ) → is_taken (length m.nodes) m.nodes_taken n ≡ true → is_taken (length m'.nodes) m'.nodes_taken n ≡ true
  pub descriptors : (d : ℕ) → is_taken (length m.descriptors) m.descriptors_taken d ≡ true → is_taken (length m'.descriptors) m'.descriptors_taken d ≡ true
  pub addresses : (a : ℕ) → Address m a → Address m' a

-- the lists are as long as before
pub next_length : (xs : List Node) (p : Option Place) (w : ℕ) → length (next_word xs 4095 p w) ≡ length xs
next_length xs None w = refl
next_length xs (Some (TrayWord i)) w = refl
next_length xs (Some (NextWord n)) w = grind (arith, nat_tests, length-set)

pub like_word : (m : Seen) (a w : ℕ) → Like m (written (Some (WordWrite a w)) m)
like_word m a w =
    record {
      nodes = λ n e. subst (λ k. is_taken k m.nodes_taken n ≡ true) (sym (next_length m.nodes (addressed a) w)) e;
      descriptors = λ d e. e;
      addresses = λ b x. elim (ℕ_discrete a b) [ yes q ↦ (w, subst (λ c. word_at (written (Some (WordWrite a w)) m) c ≡ Ok w) q (wrote_here m a w (subst (Address m) (sym q) x))) | no h ↦ (x.0, wrote_there m a b w h ∙ x.1) ];
    }

pub like_filled : (m : Seen) (d : ℕ) (x : Record) → Like m (filled m d x)
like_filled m d x = record { nodes = λ n e. e; descriptors = λ f e. grind (arith, nat_tests, length-set); addresses = λ a y. y }

-- a descriptor whose record was written, and every other
pub filled_here : (m : Seen) (d : ℕ) (x : Record) → 1 ≤ d → d ≤ length m.descriptors → descriptor_at (filled m d x) d ≡ Ok x
filled_here m d x l h = grind (arith, nat_tests, length-set, get_or-set_same)

pub filled_there : (m : Seen) (d f : ℕ) (x : Record) → 1 ≤ d → d ≤ m.descriptors_taken + 1 → f ≢ d → descriptor_at (filled m d x) f ≡ descriptor_at m f
filled_there m d f x l h n = grind (arith, nat_tests, length-set, get_or-set_other)

-- a taken descriptor has its place
pub taken_place : (m : Seen) (d : ℕ) → descriptor_at m d ≡ Ok (record_at m d) → (1 ≤ d) × (d ≤ m.descriptors_taken) × (d ≤ length m.descriptors)
taken_place m d e = grind (arith, nat_tests)

-- a written result is such a record
pub written_result : (m : Seen) (d r : ℕ) → descriptor_at m d ≡ Ok (record_at m d) → written (Some (ResultWrite d r)) m ≡ filled m d (with_result (record_at m d) r)
written_result m d r e =
    let p = taken_place m d e in
    let k : max m.descriptors_taken d ≡ m.descriptors_taken = omega arith in
    let l : results_with m.descriptors d r ≡ set m.descriptors (d - 1) (with_result (record_at m d) r) = grind (arith, nat_tests) in
    ap (λ xs. seen m.words m.nodes m.nodes_taken xs m.descriptors_taken) l ∙ ap (λ n. seen m.words m.nodes m.nodes_taken (set m.descriptors (d - 1) (with_result (record_at m d) r)) n) (sym k)

-- one more node
next_address : (n : ℕ) → 1 ≤ n → n ≤ 4095 → addressed (64 + n) ≡ Some (NextWord n)
next_address n l h = grind (arith, nat_tests)

grown_node : (m : Seen) (x : Node) → m.nodes_taken + 1 ≤ length m.nodes → node_at (grown m x) (m.nodes_taken + 1) ≡ Ok x
grown_node m x h =
    let e : m.nodes_taken + 1 - 1 ≡ m.nodes_taken = omega arith in
    let g : get_or (set m.nodes m.nodes_taken x) m.nodes_taken zero_node ≡ x = get_or-set_same m.nodes m.nodes_taken x zero_node (omega arith) in
    let k : is_taken (length (set m.nodes m.nodes_taken x)) (m.nodes_taken + 1) (m.nodes_taken + 1) ≡ true = grind (arith, nat_tests, length-set) in
    ap (λ c. cond c (Ok (get_or (set m.nodes m.nodes_taken x) (m.nodes_taken + 1 - 1) zero_node)) (Err Torn)) k ∙ ap (λ i. Ok (get_or (set m.nodes m.nodes_taken x) i zero_node)) e ∙ ap Ok g

pub grown_here : (m : Seen) (x : Node) → m.nodes_taken + 1 ≤ length m.nodes → length m.nodes ≤ 4095 → word_at (grown m x) (64 + (m.nodes_taken + 1)) ≡ Ok x.next
grown_here m x h r = ap (word_in (grown m x)) (next_address (m.nodes_taken + 1) (omega arith) (omega arith)) ∙ ap (λ y. on_ok y (λ z. Ok z.next)) (grown_node m x h)

pub grown_before : (m : Seen) → m.nodes_taken + 1 ≤ length m.nodes → length m.nodes ≤ 4095 → word_at m (64 + (m.nodes_taken + 1)) ≡ Err Torn
grown_before m h r =
    let k : is_taken (length m.nodes) m.nodes_taken (m.nodes_taken + 1) ≡ false = grind (arith, nat_tests) in
    ap (word_in m) (next_address (m.nodes_taken + 1) (omega arith) (omega arith)) ∙ ap (λ c. on_ok (cond c (Ok (get_or m.nodes (m.nodes_taken + 1 - 1) zero_node)) (Err Torn)) (λ z. Ok z.next)) k

grown_in : (m : Seen) (x : Node) (a : ℕ) (p : Option Place) → Placed a p → a ≢ 64 + (m.nodes_taken + 1) → word_in (grown m x) p ≡ word_in m p
grown_in m x a (Some (TrayWord i)) (tray l) ne = refl
grown_in m x a (Some (NextWord n)) (next _ l h q) ne =
    let n1 : n - 1 ≢ m.nodes_taken = λ e. ne (omega arith) in
    let g : get_or (set m.nodes m.nodes_taken x) (n - 1) zero_node ≡ get_or m.nodes (n - 1) zero_node = get_or-set_other m.nodes m.nodes_taken (n - 1) x zero_node n1 in
    let k : is_taken (length (set m.nodes m.nodes_taken x)) (m.nodes_taken + 1) n ≡ is_taken (length m.nodes) m.nodes_taken n = grind (arith, nat_tests, length-set) in
    ap (λ c. on_ok (cond c (Ok (get_or (set m.nodes m.nodes_taken x) (n - 1) zero_node)) (Err Torn)) (λ z. Ok z.next)) k ∙ ap (λ y. on_ok (cond (is_taken (length m.nodes) m.nodes_taken n) (Ok y) (Err Torn)) (λ z. Ok z.next)) g
grown_in m x a None none ne = refl

pub grown_there : (m : Seen) (x : Node) (a : ℕ) → a ≢ 64 + (m.nodes_taken + 1) → word_at (grown m x) a ≡ word_at m a
grown_there m x a ne = grown_in m x a (addressed a) (placed a) ne

pub like_grown : (m : Seen) (x : Node) → m.nodes_taken + 1 ≤ length m.nodes → length m.nodes ≤ 4095 → Like m (grown m x)
like_grown m x h r =
    record {
      nodes = λ n e. grind (arith, nat_tests, length-set);
      descriptors = λ d e. e;
      addresses = λ a y. elim (ℕ_discrete a (64 + (m.nodes_taken + 1))) [ yes q ↦ (x.next, ap (word_at (grown m x)) q ∙ grown_here m x h r) | no n ↦ (y.0, grown_there m x a n ∙ y.1) ];
    }
