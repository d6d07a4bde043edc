-- The walk through the tables and the walk through the view meet the same nodes.
use Rattle.std.proofs.Common.{◌≡◌, ℕ, zero, suc, ◌+◌, ◌-◌, ◌<◌, ◌≤◌, true, false, cond, ◌&&◌, eqb, leb, List, [], ◌∷◌, length, get_or, Some, None, Ok, Err, Result, sym, ap, ◌∙◌, arith}
use Rattle.std.proofs.lemmas.Bool.Decides.{nat_tests}
use Rattle.refusals.specs.declared.refusal.Refusal.{Refusal}
use Rattle.refusals.specs.declared.refusal.Refusal.TheVariants.{Torn}
use Rattle.records.specs.Tables.{zero_node}
use Rattle.memory.specs.declared.address.Address.TheVariants.{TrayWord, NextWord}
use Rattle.memory.specs.Addresses.{addressed}
use Rattle.memory.specs.Seen.{Seen}
use Rattle.memory.specs.Places.{is_taken}
use Rattle.memory.specs.Reads.{on_ok, node_at, word_in, word_at}
use Rattle.memory.specs.Meaning.{stands_for}
use Rattle.kinds.specs.Views.{View}
use Rattle.kinds.specs.Walks.{walk}
use Rattle.kinds.proofs.Chains.{Chain, chain_walk}
use Rattle.walks.specs.Walked.{led_to, onward, walked_below}
use Rattle.walk_laws.specs.Seeing.{or_zero, meaning_at, view_of, Whole}
use Rattle.walk_laws.specs.Contents.{Leads, WalkGivesParcels}

-- a taken node
abbrev Taken : Seen → ℕ → Type 0
Taken m n = (0 < n) × (n ≤ m.nodes_taken)

is_there : (room taken n : ℕ) → 0 < n → n ≤ taken → taken ≤ room → is_taken room taken n ≡ true
is_there room taken n a b c = grind (arith, nat_tests)

node_there : (m : Seen) → Whole m → (n : ℕ) → 0 < n → n ≤ m.nodes_taken → node_at m n ≡ Ok (get_or m.nodes (n - 1) zero_node)
node_there m h n a b = ap (λ t. cond t (Ok (get_or m.nodes (n - 1) zero_node)) (Err Torn)) (is_there (length m.nodes) m.nodes_taken n a b h.room)

next_address : (n : ℕ) → 0 < n → n ≤ 4095 → addressed (64 + n) ≡ Some (NextWord n)
next_address n a b =
    let low : leb (64 + n) 63 ≡ false = grind (arith, nat_tests) in
    let high : leb 65 (64 + n) && leb (64 + n) 4159 ≡ true = grind (arith, nat_tests) in
    let back : 64 + n - 64 ≡ n = omega arith in
    ap (λ t. cond t (Some (TrayWord (64 + n))) (cond (leb 65 (64 + n) && leb (64 + n) 4159) (Some (NextWord (64 + n - 64))) None)) low ∙ ap (λ t. cond t (Some (NextWord (64 + n - 64))) None) high ∙ ap (λ k. Some (NextWord k)) back

-- the word at which a walk goes on from a taken node is the word at the node's address
next_there : (m : Seen) → Whole m → (n : ℕ) → 0 < n → n ≤ m.nodes_taken → word_at m (64 + n) ≡ Ok (get_or m.nodes (n - 1) zero_node).next
next_there m h n a b = ap (word_in m) (next_address n a (omega (arith, h.few))) ∙ ap (λ r. on_ok r λ x. Ok x.next) (node_there m h n a b)

found : (r : Result ℕ Refusal) (n : ℕ) → r ≡ Ok n → or_zero r ≡ n
found r n e = ap or_zero e

module _ (m : Seen) (own : ℕ → ℕ) (h : Whole m) where
  abbrev V : View
  V = view_of m own h.few

  leads_to_none : (w : ℕ) → stands_for m w ≡ Ok 0 → led_to m w ≡ Ok None
  leads_to_none w e = ap (λ r. on_ok r λ n. cond (eqb n 0) (Ok None) (on_ok (node_at m n) λ x. Ok (Some x))) e

  leads_to : (w n : ℕ) → 0 < n → n ≤ m.nodes_taken → stands_for m w ≡ Ok n → led_to m w ≡ Ok (Some (get_or m.nodes (n - 1) zero_node))
  leads_to w n a b e =
      let other : eqb n 0 ≡ false = grind (arith, nat_tests) in
      ap (λ r. on_ok r λ k. cond (eqb k 0) (Ok None) (on_ok (node_at m k) λ x. Ok (Some x))) e
      ∙ ap (λ t. cond t (Ok None) (on_ok (node_at m n) λ x. Ok (Some x))) other
      ∙ ap (λ r. on_ok r λ x. Ok (Some x)) (node_there m h n a b)

  parcel_there : (n : ℕ) → 0 < n → n ≤ m.nodes_taken → V.parcel n ≡ (get_or m.nodes (n - 1) zero_node).parcel
  parcel_there n a b = ap (λ r. or_zero (on_ok r λ x. Ok x.parcel)) (node_there m h n a b)

  -- what the next word of a taken node stands for
  next_stands : (n : ℕ) → 0 < n → n ≤ m.nodes_taken → stands_for m (get_or m.nodes (n - 1) zero_node).next ≡ Ok (V.word (64 + n))
  next_stands n a b =
      let f = h.next_words n (omega arith) b in
      sym (ap (λ r. on_ok r (stands_for m)) (next_there m h n a b)) ∙ f.1 ∙ ap Ok (sym (found (meaning_at m (64 + n)) f.0 f.1))

  walks_along : (k w n : ℕ) (xs : List ℕ) → length xs < k → stands_for m w ≡ Ok n → Leads V n xs → walked_below m k w ≡ Ok xs
  walks_along zero w n xs lt e c = absurd (omega arith)
  walks_along (suc k) w n [] lt e c = ap (λ r. on_ok r λ o. onward o (λ v. walked_below m k v)) (leads_to_none w (e ∙ ap Ok c))
  walks_along (suc k) w n (x ∷ xs) lt e c =
      let on = walks_along k (get_or m.nodes (n - 1) zero_node).next (V.word (64 + n)) xs (omega arith) (next_stands n c.0 c.1) c.3 in
      ap (λ r. on_ok r λ o. onward o (λ v. walked_below m k v)) (leads_to w n c.0 c.1 e)
      ∙ ap (λ r. on_ok r λ ys. Ok ((get_or m.nodes (n - 1) zero_node).parcel ∷ ys)) on
      ∙ ap (λ y. Ok (y ∷ xs)) (sym (parcel_there n c.0 c.1) ∙ c.2)

-- a chain as the kinds have it
chained : (V : View) (n : ℕ) (xs : List ℕ) → Leads V n xs → Chain (λ k. (0 < k) × (k ≤ V.taken)) V n xs
chained V n [] c = c
chained V n (x ∷ xs) c = ((c.0, c.1), c.2, chained V (V.word (64 + n)) xs c.3)

pub unchained : (M : ℕ → Type 0) (V : View) → ((k : ℕ) → M k → (0 < k) × (k ≤ V.taken)) → (n : ℕ) (xs : List ℕ) → Chain M V n xs → Leads V n xs
unchained M V within n [] c = c
unchained M V within n (x ∷ xs) c = let t = within n c.0 in (t.0, t.1, c.1, unchained M V within (V.word (64 + n)) xs c.2)

walk_short : (k : ℕ) (V : View) (n : ℕ) → length (walk k V n) ≤ k
walk_short zero V n = omega arith
walk_short (suc k) V zero = omega arith
walk_short (suc k) V (suc n) = let le = walk_short k V (V.word (64 + suc n)) in omega arith

pub walk_gives_parcels : WalkGivesParcels
walk_gives_parcels m own h w n xs e c =
    let V = view_of m own h.few in
    let same : walk m.nodes_taken V n ≡ xs = chain_walk (λ k. (0 < k) × (k ≤ V.taken)) V m.nodes_taken (λ k t. t) n xs (chained V n xs c) in
    let short : length xs < suc m.nodes_taken = omega (arith, walk_short m.nodes_taken V n, ap length same) in
    walks_along m own h (suc m.nodes_taken) w n xs short e c ∙ ap Ok (sym same)

-- a word that was read at an address stands for what the view shows there
pub word_stands : (m : Seen) (own : ℕ → ℕ) (h : Whole m) (a w n : ℕ) → meaning_at m a ≡ Ok n → word_at m a ≡ Ok w → stands_for m w ≡ Ok ((view_of m own h.few).word a)
word_stands m own h a w n is e = sym (ap (λ r. on_ok r (stands_for m)) e) ∙ is ∙ ap Ok (sym (ap or_zero is))

pub tray_stands : (m : Seen) (own : ℕ → ℕ) (h : Whole m) (a w : ℕ) → a < 64 → word_at m a ≡ Ok w → stands_for m w ≡ Ok ((view_of m own h.few).word a)
tray_stands m own h a w lt e = let f = h.tray_words a lt in word_stands m own h a w f.0 f.1 e
