-- Memory as a kind of tray sees it: the plain word that each address stands for, and what is known of each node.
-- Tray t (of 32) has the addresses 2t and 2t + 1, and 64 + n is the next word of node n.
use Rattle.std.specs.Prelude.{◌≡◌, ℕ, ◌+◌, ◌*◌, ◌<◌, ◌≤◌, ◌≢◌}

pub record View : Type 0 where
  pub word : ℕ → ℕ
  pub parcel : ℕ → ℕ
  -- the tray that a node belongs to: it was taken to open it or for a put into it
  pub own : ℕ → ℕ
  -- the nodes 1 to `taken` are taken; no word names a node above 4,095
  pub taken : ℕ
  pub few : taken ≤ 4095

-- n is a taken node of tray t
pub record Owned (V : View) (t n : ℕ) : Type 0 where
  pub positive : 0 < n
  pub taken : n ≤ V.taken
  pub mine : V.own n ≡ t

-- a is a word of tray t, or the next word of one of its nodes
pub data Mine (V : View) (t a : ℕ) : Type 0 where
  at_first : a ≡ 2 * t → Mine V t a
  at_second : a ≡ 2 * t + 1 → Mine V t a
  at_next : (n : ℕ) → Owned V t n → a ≡ 64 + n → Mine V t a

-- Only words and nodes that are not tray t's have changed.
pub record Elsewhere (t : ℕ) (V V' : View) : Type 0 where
  pub words : (a : ℕ) → Mine V t a → V'.word a ≡ V.word a
  pub parcels : (n : ℕ) → Owned V t n → V'.parcel n ≡ V.parcel n
  pub kept : (n : ℕ) → Owned V t n → Owned V' t n
  pub none_new : (n : ℕ) → Owned V' t n → Owned V t n
  pub grows : V.taken ≤ V'.taken

-- What is known of the nodes is as it was.
pub record NodesKept (V V' : View) : Type 0 where
  pub parcels : (n : ℕ) → V'.parcel n ≡ V.parcel n
  pub owns : (n : ℕ) → V'.own n ≡ V.own n
  pub taken : V'.taken ≡ V.taken

pub record Same (V V' : View) : Type 0 where
  pub words : (a : ℕ) → V'.word a ≡ V.word a
  pub nodes : NodesKept V V'

-- Word w was written at a.
pub record Wrote (V V' : View) (a w : ℕ) : Type 0 where
  pub here : V'.word a ≡ w
  pub there : (b : ℕ) → b ≢ a → V'.word b ≡ V.word b
  pub nodes : NodesKept V V'

-- Node n, the next fresh one, was taken for tray t, with any parcel; its next word is nil.
pub record Took (t n : ℕ) (V V' : View) : Type 0 where
  pub fresh : n ≡ V.taken + 1
  pub taken : V'.taken ≡ n
  pub mine : V'.own n ≡ t
  pub blank : V.word (64 + n) ≡ 0
  pub words : (a : ℕ) → V'.word a ≡ V.word a
  pub parcels : (m : ℕ) → m ≢ n → V'.parcel m ≡ V.parcel m
  pub owns : (m : ℕ) → m ≢ n → V'.own m ≡ V.own m

-- Node n has another parcel now.
pub record Refilled (n : ℕ) (V V' : View) : Type 0 where
  pub words : (a : ℕ) → V'.word a ≡ V.word a
  pub parcels : (m : ℕ) → m ≢ n → V'.parcel m ≡ V.parcel m
  pub owns : (m : ℕ) → V'.own m ≡ V.own m
  pub taken : V'.taken ≡ V.taken
