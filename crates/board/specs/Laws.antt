-- What laying a tray means, in words of the board.
use Rattle.std.specs.Prelude.{◌≡◌, ℕ, ◌+◌, ◌*◌, ◌<◌, ◌≤◌, ◌⊎◌, Some, Ok, Err, Result, ◌≢◌, slice_index, slice_index_or}
use Rattle.refusals.specs.declared.refusal.Refusal.{Refusal}
use Rattle.records.specs.Tables.{Tables, zero_node}
use Rattle.board.specs.Numbers.{Numbers}
use Rattle.board.specs.Kinds.{capped, kind_of}

-- a word of a tray that was just opened: nil, or a node that was not taken before and is taken now
abbrev pub Fresh : Numbers → Numbers → ℕ → Type 0
Fresh before after word = (word ≡ 0) ⊎ ((before.nodes.taken < word) × (word ≤ after.nodes.taken))

-- The tray gets the next number and the kind asked for. No other tray changes its kind or its words, and no taken node changes.
pub record AddsTray (kind : ℕ) (n n' : Numbers) (t t' : Tables) (tray : ℕ) : Type 0 where
  pub next : tray ≡ n.trays
  pub one_more : n'.trays ≡ n.trays + 1
  pub its_kind : kind_of n' tray ≡ Some (capped kind)
  pub other_kinds : (u : ℕ) → u < tray → kind_of n' u ≡ kind_of n u
  pub first_word : Fresh n n' (slice_index t'.words (2 * tray))
  pub second_word : Fresh n n' (slice_index t'.words (2 * tray + 1))
  pub other_words : (a : ℕ) → (a ≢ 2 * tray) → (a ≢ 2 * tray + 1) → slice_index t'.words a ≡ slice_index t.words a
  pub taken_nodes : (i : ℕ) → i < n.nodes.taken → slice_index_or t'.nodes i zero_node ≡ slice_index_or t.nodes i zero_node
  pub descriptors : t'.descriptors ≡ t.descriptors
  pub scanners : t'.scanners ≡ t.scanners

-- a refusal changes nothing
abbrev pub Laying : ℕ → Numbers → Numbers → Tables → Tables → Result ℕ Refusal → Type 0
Laying kind n n' t t' (Ok tray) = AddsTray kind n n' t t' tray
Laying kind n n' t t' (Err _) = (n' ≡ n) × (t' ≡ t)
