-- Ways along next words. Such a way stays, since only nil next words change, and a chain that ends has no circle.
use Rattle.std.specs.Prelude.{◌≡◌, ℕ, suc, ◌+◌, ◌≤◌, ◌≢◌, ◌⊎◌, List, [], ◌∷◌, ◌++◌, length, refl}
use Rattle.std.proofs.Common.{sym, ap, subst, ◌∙◌, inl, inr, arith}
use Rattle.std.proofs.Math.Decide.{ℕ_discrete}
use Rattle.kinds.specs.Views.{View, Owned, Wrote}
use Rattle.kinds.proofs.Chains.{Chain, one_chain}

-- Next words lead from a to b, in no step or more, by nodes of tray t.
pub data Leads (V : View) (t : ℕ) : ℕ → ℕ → Type 0 where
  here : {a : ℕ} → Leads V t a a
  step : {a b : ℕ} → Owned V t a → V.word (64 + a) ≢ 0 → Leads V t (V.word (64 + a)) b → Leads V t a b

module _ (V : View) (t : ℕ) where
  pub leads_eq : (a b : ℕ) → b ≡ a → Leads V t a b
  leads_eq a b e = subst (λ k. Leads V t a k) (sym e) here

  pub leads_end : {a b : ℕ} → Leads V t a b → V.word (64 + a) ≡ 0 → a ≡ b
  leads_end here z = refl
  leads_end (step o ne r) z = absurd (ne z)

  pub leads_join : {a b c : ℕ} → Leads V t a b → Leads V t b c → Leads V t a c
  leads_join here q = q
  leads_join (step o ne r) q = step o ne (leads_join r q)

  -- past the first node
  pub leads_past : {a b : ℕ} → Leads V t a b → b ≢ a → Leads V t (V.word (64 + a)) b
  leads_past here ne = absurd (ne refl)
  leads_past (step o n r) ne = r

  -- one node further
  pub leads_on : {a b c : ℕ} → Leads V t a b → Owned V t b → V.word (64 + b) ≡ c → c ≢ 0 → Leads V t a c
  leads_on {a} {b} {c} r o e ne = leads_join r (step o (λ z. ne (sym e ∙ z)) (subst (λ k. Leads V t (V.word (64 + b)) k) e here))

  pub source_owned : {a b : ℕ} → Leads V t a b → Owned V t b → Owned V t a
  source_owned here o = o
  source_owned (step o ne r) _ = o

  -- a chain from where a way ends, no longer than the one from where it began
  pub leads_chain : {a b : ℕ} (x : ℕ) (xs : List ℕ) → Leads V t a b → Chain (Owned V t) V a (x ∷ xs) → (y : ℕ) × (ys : List ℕ) × Chain (Owned V t) V b (y ∷ ys) × (length ys ≤ length xs)
  leads_chain x xs here c = (x, xs, c, omega arith)
  leads_chain x [] (step o ne r) c = absurd (ne c.2)
  leads_chain x (p ∷ ps) (step o ne r) c =
      let k = leads_chain p ps r c.2 in
      (k.0, k.1, k.2, omega (arith, k.3))

  -- no circle
  pub no_circle : (a x : ℕ) (xs : List ℕ) → Chain (Owned V t) V a (x ∷ xs) → Leads V t (V.word (64 + a)) a → ⊥
  no_circle a x [] c r =
      let e : V.word (64 + a) ≡ a = go r c.2 in
      omega (arith, c.0.positive, e, c.2)
    where
      go : {b : ℕ} → Leads V t b a → b ≡ 0 → b ≡ a
      go here z = refl
      go (step o ne r) z = absurd (omega (arith, o.positive, z))
  no_circle a x (p ∷ ps) c r =
      let k = leads_chain p ps r c.2 in
      let e = one_chain (Owned V t) V V.taken (λ m o. (o.positive, o.taken)) a (x ∷ p ∷ ps) (k.0 ∷ k.1) c k.2 in
      omega (arith, ap length e, k.3)

  -- back at a by way of b, whose next word is a
  pub circle : {a b : ℕ} → Leads V t a b → Owned V t b → V.word (64 + b) ≡ a → a ≢ 0 → Leads V t (V.word (64 + a)) a
  circle {a} here o e ne = leads_eq _ a (sym e)
  circle (step q d r) o e ne = leads_on r o e ne

  -- The next word at a node from which a way leads to a chain: nil, or a node of the tray.
  pub next_owned : {x b : ℕ} (p : ℕ) (ps : List ℕ) (y : ℕ) → Leads V t x b → Chain (Owned V t) V b (p ∷ ps) → V.word (64 + x) ≡ suc y → Owned V t (suc y)
  next_owned p [] y here c e = absurd (omega (arith, e, c.2))
  next_owned p (q ∷ qs) y here c e = subst (Owned V t) e c.2.0
  next_owned p ps y (step o ne r) c e = subst (Owned V t) e (source_owned r c.0)

  -- A chain that comes by no node n has no node n.
  pub chain_off : (a n : ℕ) (xs : List ℕ) → (Leads V t a n → ⊥) → Chain (Owned V t) V a xs → Chain (λ m. Owned V t m × (m ≢ n)) V a xs
  chain_off a n [] off c = c
  chain_off a n (x ∷ []) off c = ((c.0, λ e. off (leads_eq a n (sym e))), c.1, c.2)
  chain_off a n (x ∷ y ∷ ys) off c =
      ((c.0, λ e. off (leads_eq a n (sym e))), c.1, chain_off (V.word (64 + a)) n (y ∷ ys) (λ r. off (step c.0 (λ z. omega (arith, c.2.0.positive, z)) r)) c.2)

module _ (t : ℕ) (V V' : View) where
  -- a way stays where next words that are not nil do
  pub leads_kept : ((c : ℕ) → Owned V t c → Owned V' t c) → ((c : ℕ) → Owned V t c → V.word (64 + c) ≢ 0 → V'.word (64 + c) ≡ V.word (64 + c)) → {a b : ℕ} → Leads V t a b → Leads V' t a b
  leads_kept owned nexts here = here
  leads_kept owned nexts {b = b} (step {a = a} o ne r) =
      let e = nexts a o ne in
      step (owned a o) (λ z. ne (sym e ∙ z)) (subst (λ k. Leads V' t k b) (sym e) (leads_kept owned nexts r))

  -- along a chain whose words have stayed, a way was there before
  pub leads_back : ((c : ℕ) → Owned V t c → V'.word (64 + c) ≡ V.word (64 + c)) → {a b : ℕ} (x : ℕ) (xs : List ℕ) → Leads V' t a b → Chain (Owned V t) V a (x ∷ xs) → Leads V t a b
  leads_back same x xs here c = here
  leads_back same x [] (step {a = a} o ne r) c = absurd (ne (same a c.0 ∙ c.2))
  leads_back same {b = b} x (p ∷ ps) (step {a = a} o ne r) c =
      let e = same a c.0 in
      let before : Leads V t (V'.word (64 + a)) b = leads_back same p ps r (subst (λ k. Chain (Owned V t) V k (p ∷ ps)) (sym e) c.2) in
      step c.0 (λ z. ne (e ∙ z)) (subst (λ k. Leads V t k b) e before)

  -- Node n was linked behind the last node, x.
  module _ (x n : ℕ) (w : Wrote V V' (64 + x) n) (end : V.word (64 + x) ≡ 0) (blank : V.word (64 + n) ≡ 0) (apart : n ≢ x) (owned : Owned V t n) where
    linked_elsewhere : (a : ℕ) → a ≢ x → V'.word (64 + a) ≡ V.word (64 + a)
    linked_elsewhere a ne = w.there (64 + a) (λ e. ne (omega (arith, e)))

    pub blank_still : V'.word (64 + n) ≡ 0
    blank_still = linked_elsewhere n apart ∙ blank

    pub linked_owned : (c : ℕ) → Owned V t c → Owned V' t c
    linked_owned c o = record { positive = o.positive; taken = rw w.nodes.taken o.taken; mine = w.nodes.owns c ∙ o.mine }

    pub linked_nexts : (c : ℕ) → V.word (64 + c) ≢ 0 → V'.word (64 + c) ≡ V.word (64 + c)
    linked_nexts c ne = linked_elsewhere c (λ e. ne (ap (λ k. V.word (64 + k)) e ∙ end))

    -- where a way comes to now, it came before, or that is n
    pub leads_linked : {a b : ℕ} (p : ℕ) (ps : List ℕ) → Leads V' t a b → Chain (Owned V t) V a (p ∷ ps) → Leads V t a b ⊎ (b ≡ n)
    leads_linked p ps here c = inl here
    leads_linked {b = b} p [] (step {a = a} o ne r) c = go (ℕ_discrete a x)
      where
        go : Dec (a ≡ x) → Leads V t a b ⊎ (b ≡ n)
        go (yes e) = inr (sym (leads_end V' t (subst (λ k. Leads V' t k b) (ap (λ k. V'.word (64 + k)) e ∙ w.here) r) blank_still))
        go (no d) = absurd (ne (linked_elsewhere a d ∙ c.2))
    leads_linked {b = b} p (q ∷ qs) (step {a = a} o ne r) c =
        let d : a ≢ x = λ e. omega (arith, c.2.0.positive, ap (λ k. V.word (64 + k)) e ∙ end) in
        let e = linked_elsewhere a d in
        before e (leads_linked q qs r (subst (λ k. Chain (Owned V t) V k (q ∷ qs)) (sym e) c.2))
      where
        before : V'.word (64 + a) ≡ V.word (64 + a) → Leads V t (V'.word (64 + a)) b ⊎ (b ≡ n) → Leads V t a b ⊎ (b ≡ n)
        before e (inl i) = inl (step c.0 (λ z. ne (e ∙ z)) (subst (λ k. Leads V t k b) e i))
        before e (inr i) = inr i

    pub chain_linked : (a p : ℕ) (ps : List ℕ) → Leads V t a x → Chain (Owned V t) V a (p ∷ ps) → Chain (Owned V' t) V' a (p ∷ (ps ++ (V.parcel n ∷ [])))
    chain_linked a p [] r c =
        let is : V'.word (64 + a) ≡ n = ap (λ k. V'.word (64 + k)) (leads_end V t r c.2) ∙ w.here in
        (linked_owned a c.0, w.nodes.parcels a ∙ c.1, rw is (linked_owned n owned, w.nodes.parcels n, blank_still))
    chain_linked a p (q ∷ qs) r c =
        let d : a ≢ x = λ e. omega (arith, c.2.0.positive, ap (λ k. V.word (64 + k)) e ∙ end) in
        let on = chain_linked (V.word (64 + a)) q qs (leads_past V t r (λ e. d (sym e))) c.2 in
        (linked_owned a c.0, w.nodes.parcels a ∙ c.1, subst (λ k. Chain (Owned V' t) V' k (q ∷ (qs ++ (V.parcel n ∷ [])))) (sym (linked_elsewhere a d)) on)
