-- The addresses that the requests at a queue share: no node that a put has to itself has its next word there.
use Rattle.std.specs.Prelude.{ℕ, ◌+◌, ◌*◌, ◌<◌, true, ◌≢◌, refl}
use Rattle.std.proofs.Common.{arith, eq-eqb}
use Rattle.kinds.specs.Views.{View, Owned, at_first, at_second, at_next}
use Rattle.kinds.specs.Points.{Shared, Reads, Swaps}
use Rattle.kinds.proofs.Steady.{HeldPrivate}
use Rattle.queue.specs.Queue.{queue_plan}
use Rattle.queue.proofs.Facts.{Apart, queue_way}
use Rattle.queue.proofs.Exact.{no_peek}

-- the nodes that puts have to themselves
abbrev pub Alone : ℕ → View → ℕ → Type 0
Alone t V = HeldPrivate queue_way t V tt

pub head_shared : (t : ℕ) (V : View) → t < 32 → Shared V (Alone t V) t (2 * t)
head_shared t V lt = record { mine = at_first refl; unmet = λ n p e. omega (arith, e) }

pub tail_shared : (t : ℕ) (V : View) → t < 32 → Shared V (Alone t V) t (2 * t + 1)
tail_shared t V lt = record { mine = at_second refl; unmet = λ n p e. omega (arith, e) }

pub next_shared : (t : ℕ) (V : View) (x : ℕ) → Owned V t x → ((n : ℕ) → Apart V t n → x ≢ n) → Shared V (Alone t V) t (64 + x)
next_shared t V x o ne = record { mine = at_next x o refl; unmet = λ n p e. ne n p.1 (omega (arith, e)) }

pub reads : (t : ℕ) (V : View) (a : ℕ) → Shared V (Alone t V) t a → Reads queue_plan V (Alone t V) t a
reads t V a s = record { shared = s; peeked = no_peek }

pub tail_swaps : (t : ℕ) (V : View) (x y : ℕ) → t < 32 → Owned V t x → Owned V t y → Swaps queue_plan V (Alone t V) t true (record { address = 2 * t + 1; old = x; new = y })
tail_swaps t V x y lt ox oy = record { shared = tail_shared t V lt; old = ox.taken; new = oy.taken; calm = no_peek; apart = eq-eqb (2 * t + 1) (2 * t + 1) refl }
