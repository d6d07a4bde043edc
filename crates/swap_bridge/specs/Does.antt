-- What the system may do, one thing at a time, with the machine's event for it.
use Rattle.std.specs.Prelude.{◌≡◌, ℕ, ◌+◌, ◌-◌, ◌≤◌, max, Bool, true, false, cond, List, [], ◌∷◌, length, Some, Ok, ◌==◌, slice_set, None, Option}
use Rattle.words.specs.declared.word.Word.TheVariants.{Descriptor, Mark}
use Rattle.words.specs.Words.{told}
use Rattle.records.specs.declared.entries.Node.{Node}
use Rattle.records.specs.declared.entries.Descriptor.{Descriptor as Record}
use Rattle.memory.specs.Seen.{Seen, seen}
use Rattle.memory.specs.Reads.{word_at}
use Rattle.swap_access.specs.declared.effect.Effect.{Effect}
use Rattle.swap_access.specs.declared.effect.Write.{Write}
use Rattle.swap_access.specs.declared.effect.Write.TheVariants.{Word as WordWrite, Result as ResultWrite}
use Rattle.swap_access.specs.declared.position.Met.TheVariants.{Descriptor as by_descriptor, Mark as by_mark}
use Rattle.swap_access.specs.declared.position.End.{End}
use Rattle.swap_access.specs.declared.position.End.TheVariants.{FirstFailed, Success, SecondFailed, Helped}
use Rattle.swap_access.specs.declared.position.Next.{Next}
use Rattle.swap_access.specs.declared.position.Next.TheVariants.{At, Ended}
use Rattle.swap_access.specs.declared.position.Position.{Position}
use Rattle.swap_access.specs.declared.position.Position.TheVariants.{Publish, ReadResult, Clean, PlaceMark, ReRead, TryToFail, GiveBack, Decide, FinishFirst, FinishSecond, WriteSuccess, Withdraw}
use Rattle.swap.specs.Dispatch.{decided as decided_by_code}
use Rattle.swap_step.specs.Steps.{written}
use Rattle.swap_machine.specs.Update.{update}
use Rattle.swap_machine.specs.Machine.{fresh, scanner, Takes, Event, silent, swapped, decided, first_failed, answers}
use Rattle.swap_bridge.specs.Systems.{Standing, resting, working, System}
use Rattle.swap_bridge.specs.Abstraction.{result_at}
use Rattle.swap_bridge.specs.Valid.{Plain, Task}

-- the descriptor of a position
abbrev pub swap_of : Position → ℕ
swap_of (Publish d) = d
swap_of (ReadResult d met) = d
swap_of (Clean d met) = d
swap_of (PlaceMark d) = d
swap_of (ReRead d) = d
swap_of (TryToFail d) = d
swap_of (GiveBack d) = d
swap_of (Decide d t placed) = d
swap_of (FinishFirst d t) = d
swap_of (FinishSecond d t) = d
swap_of (WriteSuccess d t) = d
swap_of (Withdraw d ok) = d

-- what is learnt of an end
abbrev pub end_event : ℕ → End → Event
end_event d FirstFailed = first_failed d
end_event d Success = answers d true
end_event d SecondFailed = answers d false
end_event d Helped = silent

-- what is learnt of an access: a result other than 3 that does not end the swap decides it
abbrev pub event_of : ℕ → Option Write → Next → Event
event_of d w (Ended e) = end_event d e
event_of d None (At p) = silent
event_of d (Some (WordWrite a w)) (At p) = silent
event_of d (Some (ResultWrite e r)) (At p) = cond (r == 3) silent (decided e)

-- where the scanner stands then
abbrev pub going : Bool → Next → Standing
going own (At p) = working own p
going own (Ended e) = resting

-- a descriptor is published by the first swap of its owner, unless that ends the run
abbrev pub publishing : Position → Next → (ℕ → Bool) → ℕ → Bool
publishing (Publish d) (At p) b = update b d true
publishing (Publish d) (Ended e) b = b
publishing (ReadResult d met) n b = b
publishing (Clean d met) n b = b
publishing (PlaceMark d) n b = b
publishing (ReRead d) n b = b
publishing (TryToFail d) n b = b
publishing (GiveBack d) n b = b
publishing (Decide d t placed) n b = b
publishing (FinishFirst d t) n b = b
publishing (FinishSecond d t) n b = b
publishing (WriteSuccess d t) n b = b
publishing (Withdraw d ok) n b = b

-- after the access f of scanner s at position p
abbrev pub after : System → ℕ → Bool → Position → Effect → System
after σ s own p f =
    record {
      tables = written f.write σ.tables;
      standing = update σ.standing s (going own f.next);
      owner = σ.owner;
      published = publishing p f.next σ.published;
    }

-- the tables with another record for descriptor d, which is taken then
abbrev pub filled : Seen → ℕ → Record → Seen
filled m d x = seen m.words m.nodes m.nodes_taken (slice_set m.descriptors (d - 1) x) (max m.descriptors_taken d)

-- the tables with one more node taken
abbrev pub grown : Seen → Node → Seen
grown m x = seen m.words (slice_set m.nodes m.nodes_taken x) (m.nodes_taken + 1) m.descriptors m.descriptors_taken

-- scanner s goes to another standing, over other tables
abbrev pub moved : System → Seen → ℕ → Standing → System
moved σ m s w = record { tables = m; standing = update σ.standing s w; owner = σ.owner; published = σ.published }

-- scanner s has filled in descriptor d, and is about to publish it
abbrev pub prepared : System → ℕ → ℕ → Record → System
prepared σ s d x =
    record {
      tables = filled σ.tables d x;
      standing = update σ.standing s (working true (Publish d));
      owner = update σ.owner d (scanner s);
      published = σ.published;
    }

-- scanner s may prepare the swap x in descriptor d
pub record MayPrepare (σ : System) (s d : ℕ) (x : Record) : Type 0 where
  -- the place is taken, or is the next one, and there is room
  pub low : 1 ≤ d
  pub next : d ≤ σ.tables.descriptors_taken + 1
  pub room : d ≤ length σ.tables.descriptors
  -- d was never published, and is nobody's or its own
  pub unpublished : σ.published d ≡ false
  pub unused : result_at σ.tables σ.published d ≡ fresh
  pub takes : Takes s (σ.owner d)
  -- nil or taken nodes at two addresses of the tables, and no result yet
  pub task : Task σ.tables x
  pub no_result : x.result ≡ 1

pub data Does (σ : System) : Event → System → Type 0 where
  -- nothing happens, or what happens is only read
  waits : Does σ silent σ
  -- a scanner in a swap makes the access that the code makes
  steps : (s : ℕ) (own : Bool) (p : Position) (f : Effect) → σ.standing s ≡ working own p → decided_by_code σ.tables s p ≡ Ok f → Does σ (event_of (swap_of p) f.write f.next) (after σ s own p f)
  -- a scanner outside any swap writes one plain word over another
  swaps : (s a x y : ℕ) → σ.standing s ≡ resting → word_at σ.tables a ≡ Ok x → Plain σ.tables x → Plain σ.tables y → Does σ (swapped a x y) (moved σ (written (Some (WordWrite a y)) σ.tables) s resting)
  -- it takes the next node and fills it in; to the machine, which knows no counts, the next word of that node was nil until then
  takes_node : (s : ℕ) (x : Node) → σ.standing s ≡ resting → σ.tables.nodes_taken + 1 ≤ length σ.tables.nodes → Plain σ.tables x.next → Does σ (swapped (64 + (σ.tables.nodes_taken + 1)) 0 x.next) (moved σ (grown σ.tables x) s resting)
  -- it prepares a swap of its own
  prepares : (s d : ℕ) (x : Record) → σ.standing s ≡ resting → s ≤ 15 → MayPrepare σ s d x → Does σ silent (prepared σ s d x)
  -- it meets the descriptor of another, or a mark, and begins to help
  meets_descriptor : (s a w d : ℕ) → σ.standing s ≡ resting → s ≤ 15 → word_at σ.tables a ≡ Ok w → told w ≡ Some (Descriptor d) → Does σ silent (moved σ σ.tables s (working false (ReadResult d by_descriptor)))
  meets_mark : (s a w d t : ℕ) → σ.standing s ≡ resting → s ≤ 15 → word_at σ.tables a ≡ Ok w → told w ≡ Some (Mark t d) → Does σ silent (moved σ σ.tables s (working false (ReadResult d (by_mark t))))

-- A run of the system, with its events, the last first.
pub data Runs (σ : System) : List Event → System → Type 0 where
  begin : Runs σ [] σ
  then : {h : List Event} {τ υ : System} {e : Event} → Runs σ h τ → Does τ e υ → Runs σ (e ∷ h) υ
