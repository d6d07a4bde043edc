-- All that can happen at one tray, with any steps of others between.
use Rattle.std.specs.Prelude.{◌≡◌, ℕ, ◌+◌, ◌*◌, ◌<◌, Bool, false, cond, ◌||◌, Some}
use Rattle.records.specs.declared.entries.Swap.{Swap}
use Rattle.kinds.specs.declared.acts.Notes.{Notes}
use Rattle.kinds.specs.declared.acts.PutAct.TheVariants.{Read as PutRead, Tidy as PutTidy, Commit as PutCommit}
use Rattle.kinds.specs.declared.acts.TakeAct.TheVariants.{Read as TakeRead, Tidy as TakeTidy, Commit as TakeCommit}
use Rattle.kinds.specs.Views.{View, Owned, Elsewhere, Wrote, Took, Refilled}
use Rattle.kinds.specs.Plans.{Plan, start, found_nothing, idle, parked, puts, rests, takes, Requests, Turns, is_empty, finds, Swapped}

-- Tray t was opened, with the leading node n, or with n = 0.
pub record Opened (P : Plan) (t n : ℕ) (V : View) : Type 0 where
  pub tray : t < 32
  pub first : V.word (2 * t) ≡ P.first n
  pub second : V.word (2 * t + 1) ≡ P.second n
  pub lead : cond P.takes_node (Owned V t n × (V.word (64 + n) ≡ 0)) (n ≡ 0)
  pub alone : (m : ℕ) → Owned V t m → m ≡ n

module _ (P : Plan) (t : ℕ) where
  -- What happens at the tray, but for a commit that succeeds: from a view and requests to those after it.
  pub data Quiet (V : View) (E : Requests) : View → Requests → Type 0 where
    -- something happens at other trays
    elsewhere : {V' : View} → Elsewhere t V V' → Quiet V E V' E
    -- a take starts, and starts over at any moment
    take_starts : {E' : Requests} (s : ℕ) → E s ≡ idle → Turns E E' s (takes start false) → Quiet V E V E'
    take_again : {E' : Requests} (s : ℕ) (m : Notes) (b : Bool) → E s ≡ takes m b → Turns E E' s (takes start b) → Quiet V E V E'
    -- a put gets its node, gets another parcel before it starts, starts, and is set aside at any moment
    put_gets_node : {V' : View} {E' : Requests} (s n : ℕ) → E s ≡ idle → Took t n V V' → Turns E E' s (parked n) → Quiet V E V' E'
    put_refilled : {V' : View} (s n : ℕ) → E s ≡ parked n → Refilled n V V' → Quiet V E V' E
    put_starts : {E' : Requests} (s n : ℕ) → E s ≡ parked n → Turns E E' s (puts n start) → Quiet V E V E'
    put_parks : {E' : Requests} (s n : ℕ) (m : Notes) → E s ≡ puts n m → Turns E E' s (parked n) → Quiet V E V E'
    -- a put reads, notes what it found, and fills its own node's next word
    put_reads : {V' : View} {E' : Requests} (s n : ℕ) (m : Notes) (a : ℕ) → E s ≡ puts n m → P.put_act t n m ≡ PutRead a → Wrote V V' (64 + n) (P.fill (P.put_noted m (finds P V (V.word a)))) →
        Turns E E' s (puts n (P.put_noted m (finds P V (V.word a)))) → Quiet V E V' E'
    -- a take reads, and is marked if the tray was empty
    take_reads : {E' : Requests} (s : ℕ) (m : Notes) (b : Bool) (a : ℕ) → E s ≡ takes m b → P.take_act t m ≡ TakeRead a →
        Turns E E' s (takes (P.take_noted m (finds P V (V.word a))) (b || is_empty (P.contents t V))) → Quiet V E V E'
    -- tidying swaps, of a put, of a take, and of a put past its success
    put_tidies : {V' : View} {E' : Requests} (s n : ℕ) (m : Notes) (w : Swap) → E s ≡ puts n m → P.put_act t n m ≡ PutTidy w → Swapped V V' w → Turns E E' s (puts n (P.put_noted m found_nothing)) → Quiet V E V' E'
    take_tidies : {V' : View} {E' : Requests} (s : ℕ) (m : Notes) (b : Bool) (w : Swap) → E s ≡ takes m b → P.take_act t m ≡ TakeTidy w → Swapped V V' w → Turns E E' s (takes (P.take_noted m found_nothing) b) → Quiet V E V' E'
    last_tidies : {V' : View} {E' : Requests} (s n : ℕ) (m : Notes) (w : Swap) → E s ≡ rests n m → P.last_swap t n m ≡ Some w → Swapped V V' w → Turns E E' s idle → Quiet V E V' E'
    -- a request is forgotten: it has finished, or will not act any more
    forgotten : {E' : Requests} (s : ℕ) → Turns E E' s idle → Quiet V E V E'

  -- A put's commit succeeds, alone or as half of a two-word swap at its decision, with this parcel.
  pub data Puts (V : View) (E : Requests) : ℕ → View → Requests → Type 0 where
    put_commits : {V' : View} {E' : Requests} (s n : ℕ) (m : Notes) (w : Swap) → E s ≡ puts n m → P.put_act t n m ≡ PutCommit w → V.word w.address ≡ w.old → Wrote V V' w.address w.new → Turns E E' s (rests n m) → Puts V E (V.parcel n) V' E'

  -- A take's commit succeeds, alone or as half of a two-word swap at its decision, with the parcel that it named.
  pub data Takes (V : View) (E : Requests) : ℕ → View → Requests → Type 0 where
    take_commits : {V' : View} {E' : Requests} (s : ℕ) (m : Notes) (b : Bool) (w : Swap) (x : ℕ) → E s ≡ takes m b → P.take_act t m ≡ TakeCommit w x → V.word w.address ≡ w.old → Wrote V V' w.address w.new → Turns E E' s idle → Takes V E x V' E'

  -- Everything that can have come about, from the opening on.
  pub data Reached : View → Requests → Type 0 where
    opened : {V : View} {E : Requests} (n : ℕ) → Opened P t n V → ((s : ℕ) → E s ≡ idle) → Reached V E
    quietly : {V V' : View} {E E' : Requests} → Reached V E → Quiet V E V' E' → Reached V' E'
    by_put : {V V' : View} {E E' : Requests} {x : ℕ} → Reached V E → Puts V E x V' E' → Reached V' E'
    by_take : {V V' : View} {E E' : Requests} {x : ℕ} → Reached V E → Takes V E x V' E' → Reached V' E'
