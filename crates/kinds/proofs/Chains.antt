-- Nodes in a row.
use Rattle.std.proofs.Common.{◌≡◌, ℕ, zero, suc, ◌+◌, ◌<◌, ◌≤◌, List, [], ◌∷◌, length, sym, refl, ap, ◌∙◌, subst, ap₂, inl, inr, arith}
use Rattle.kinds.specs.Views.{View, Owned}
use Rattle.kinds.specs.Walks.{walk}
use Rattle.kinds.proofs.Distinct.{In, Distinct, at_most}

-- Along next words from n stand the parcels xs, each in a node of which M holds, and then nil.
abbrev pub Chain : (ℕ → Type 0) → View → ℕ → List ℕ → Type 0
Chain M V n [] = n ≡ 0
Chain M V n (x ∷ xs) = M n × (V.parcel n ≡ x) × Chain M V (V.word (64 + n)) xs

-- The nodes of which M holds have the next words and parcels that they had, and M' holds of them.
pub record NodesStay (M M' : ℕ → Type 0) (V V' : View) : Type 0 where
  pub still : (m : ℕ) → M m → M' m
  pub words : (m : ℕ) → M m → V'.word (64 + m) ≡ V.word (64 + m)
  pub parcels : (m : ℕ) → M m → V'.parcel m ≡ V.parcel m

pub chain_kept : (M M' : ℕ → Type 0) (V V' : View) → NodesStay M M' V V' → (n : ℕ) (xs : List ℕ) → Chain M V n xs → Chain M' V' n xs
chain_kept M M' V V' k n [] c = c
chain_kept M M' V V' k n (x ∷ xs) c = (k.still n c.0, k.parcels n c.0 ∙ c.1, rw (k.words n c.0) (chain_kept M M' V V' k (V.word (64 + n)) xs c.2))

-- Where a chain begins is nil or a taken node.
pub chain_taken : (t : ℕ) (M : ℕ → Type 0) (V : View) → ((m : ℕ) → M m → Owned V t m) → (n : ℕ) (xs : List ℕ) → Chain M V n xs → n ≤ V.taken
chain_taken t M V owned n [] c = omega (arith, c)
chain_taken t M V owned n (x ∷ xs) c = (owned n c.0).taken

-- Of a chain of taken nodes the walk shows the parcels: its nodes are distinct, since a node that came twice would begin two rests of different length.
module _ (M : ℕ → Type 0) (V : View) (k : ℕ) (within : (m : ℕ) → M m → (0 < m) × (m ≤ k)) where
  -- the nodes of a chain, as many as the parcels
  abbrev nodes : ℕ → List ℕ → List ℕ
  nodes n [] = []
  nodes n (x ∷ xs) = n ∷ nodes (V.word (64 + n)) xs

  as_many : (n : ℕ) (xs : List ℕ) → length (nodes n xs) ≡ length xs
  as_many n [] = refl
  as_many n (x ∷ xs) = ap suc (as_many (V.word (64 + n)) xs)

  of_chain : (n : ℕ) (xs : List ℕ) → Chain M V n xs → (m : ℕ) → In m (nodes n xs) → M m
  of_chain n [] c m i = absurd i
  of_chain n (x ∷ xs) c m (inl e) = subst M (sym e) c.0
  of_chain n (x ∷ xs) c m (inr i) = of_chain (V.word (64 + n)) xs c.2 m i

  -- from one node, the same parcels
  pub one_chain : (n : ℕ) (xs ys : List ℕ) → Chain M V n xs → Chain M V n ys → xs ≡ ys
  one_chain n [] [] c d = refl
  one_chain n [] (y ∷ ys) c d = absurd (omega (arith, (within n d.0).0, c))
  one_chain n (x ∷ xs) [] c d = absurd (omega (arith, (within n c.0).0, d))
  one_chain n (x ∷ xs) (y ∷ ys) c d = ap₂ ◌∷◌ (sym c.1 ∙ d.1) (one_chain (V.word (64 + n)) xs ys c.2 d.2)

  -- from each node of a chain, the rest of it
  rest_from : (n : ℕ) (xs : List ℕ) → Chain M V n xs → (m : ℕ) → In m (nodes n xs) → (ys : List ℕ) × Chain M V m ys × (length ys ≤ length xs)
  rest_from n [] c m i = absurd i
  rest_from n (x ∷ xs) c m (inl e) = (x ∷ xs, subst (λ j. Chain M V j (x ∷ xs)) (sym e) c, omega arith)
  rest_from n (x ∷ xs) c m (inr i) = let h = rest_from (V.word (64 + n)) xs c.2 m i in (h.0, h.1, omega (arith, h.2))

  nodes_distinct : (n : ℕ) (xs : List ℕ) → Chain M V n xs → Distinct (nodes n xs)
  nodes_distinct n [] c = tt
  nodes_distinct n (x ∷ xs) c = (
    λ i.
        let h = rest_from (V.word (64 + n)) xs c.2 n i in
        omega (arith, h.2, ap length (one_chain n (x ∷ xs) h.0 c h.1)),
    nodes_distinct (V.word (64 + n)) xs c.2,
  )

  pub walk_far : (j n : ℕ) (xs : List ℕ) → length xs ≤ j → Chain M V n xs → walk j V n ≡ xs
  walk_far zero n [] le c = refl
  walk_far zero n (x ∷ xs) le c = absurd (omega arith)
  walk_far (suc j) n [] le c = rw c refl
  walk_far (suc j) zero (x ∷ xs) le c = absurd (omega (arith, (within 0 c.0).0))
  walk_far (suc j) (suc n) (x ∷ xs) le c = ap₂ ◌∷◌ c.1 (walk_far j (V.word (64 + suc n)) xs (omega arith) c.2)

  pub chain_walk : (n : ℕ) (xs : List ℕ) → Chain M V n xs → walk k V n ≡ xs
  chain_walk n xs c = walk_far k n xs (omega (arith, as_many n xs, at_most k (nodes n xs) (λ m i. within m (of_chain n xs c m i)) (nodes_distinct n xs c))) c
