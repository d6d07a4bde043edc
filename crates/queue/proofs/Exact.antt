-- A queue's acts by the addresses as they are: trays and nodes are few enough for 32 bits.
use Rattle.std.specs.Prelude.{◌≡◌, ℕ, zero, suc, ◌+◌, ◌*◌, ◌<◌, ◌≤◌, Bool, true, false, refl}
use Rattle.std.proofs.Common.{sym, ap, ap₂, ◌∙◌, arith}
use Rattle.std.proofs.Math.Decide.{ℕ_discrete}
use Rattle.kinds.specs.declared.acts.Notes.{Notes}
use Rattle.kinds.specs.declared.acts.PutAct.{PutAct}
use Rattle.kinds.specs.declared.acts.PutAct.TheVariants.{Read as PutRead, Tidy as PutTidy, Commit as PutCommit}
use Rattle.kinds.specs.declared.acts.TakeAct.{TakeAct}
use Rattle.kinds.specs.declared.acts.TakeAct.TheVariants.{Read as TakeRead, Tidy as TakeTidy, Commit as TakeCommit, Empty}
use Rattle.kinds.specs.Views.{View, Same, Wrote}
use Rattle.kinds.specs.Plans.{finds}
use Rattle.kinds.proofs.Steady.{OnPutRead, OnTakeRead}
use Rattle.queue.specs.Queue.{head_at, tail_at, next_at, put_acts, take_acts, queue_plan}
use Rattle.queue.proofs.Facts.{PutNoted, TakeNoted}

pub head_exact : (t : ℕ) → t < 32 → head_at t ≡ 2 * t
head_exact t lt = omega arith

pub tail_exact : (t : ℕ) → t < 32 → tail_at t ≡ 2 * t + 1
tail_exact t lt = omega arith

pub next_exact : (V : View) (x : ℕ) → x ≤ V.taken → next_at x ≡ 64 + x
next_exact V x le = omega (arith, V.few)

-- a put's act and a take's, by their notes
abbrev pub put_exactly : ℕ → ℕ → Notes → PutAct
put_exactly t n m = put_acts (2 * t + 1) (64 + m.one) n m.stage m.one m.two

abbrev pub take_exactly : ℕ → Notes → TakeAct
take_exactly t m = take_acts (2 * t) (2 * t + 1) (64 + m.one) m.stage m.one m.two m.three m.parcel

pub put_exact : (V : View) (t n : ℕ) (m : Notes) → t < 32 → m.one ≤ V.taken → queue_plan.put_act t n m ≡ put_exactly t n m
put_exact V t n m lt le = ap₂ (λ a b. put_acts a b n m.stage m.one m.two) (tail_exact t lt) (next_exact V m.one le)

pub take_exact : (V : View) (t : ℕ) (m : Notes) → t < 32 → m.one ≤ V.taken → queue_plan.take_act t m ≡ take_exactly t m
take_exact V t m lt le =
    ap (λ a. take_acts a (tail_at t) (next_at m.one) m.stage m.one m.two m.three m.parcel) (head_exact t lt)
    ∙ ap₂ (λ a b. take_acts (2 * t) a b m.stage m.one m.two m.three m.parcel) (tail_exact t lt) (next_exact V m.one le)

-- the node of which a request has read the next word is taken
pub put_one : (V : View) (t k x y : ℕ) → PutNoted V t k x y → x ≤ V.taken
put_one V t zero x y h = h
put_one V t (suc zero) x y h = h.0.taken
put_one V t (suc (suc k)) x y h = h.0.taken

pub take_one : (V : View) (t k x z y p : ℕ) (b : Bool) → TakeNoted V t k x z y p b → x ≤ V.taken
take_one V t zero x z y p b h = h
take_one V t (suc zero) x z y p b h = h.0.taken
take_one V t (suc (suc zero)) x z y p b h = h.0.taken
take_one V t (suc (suc (suc k))) x z y p b h = h.0.taken

-- what a read finds
pub finds_word : (V : View) (w : ℕ) → (finds queue_plan V w).word ≡ w
finds_word V zero = refl
finds_word V (suc n) = refl

-- What was written was there.
pub wrote_same : (V V' : View) (a w : ℕ) → V.word a ≡ w → Wrote V V' a w → Same V V'
wrote_same V V' a w e h = record { words = λ c. go c (ℕ_discrete c a); nodes = h.nodes }
  where
    go : (c : ℕ) → Dec (c ≡ a) → V'.word c ≡ V.word c
    go c (yes q) = ap V'.word q ∙ h.here ∙ sym e ∙ ap V.word (sym q)
    go c (no d) = h.there c d

-- a queue does not peek
pub no_peek : {A : Type 0} → false ≡ true → A
no_peek e = absurd (let z : ◌≡◌ {A = ℕ} 0 1 = cc in omega arith)

pub on_put_read : (x : PutAct) (Q R : ℕ → Type 0) → ((a : ℕ) → Q a → R a) → OnPutRead x Q → OnPutRead x R
on_put_read (PutRead a) Q R f h = f a h
on_put_read (PutTidy w) Q R f h = tt
on_put_read (PutCommit w) Q R f h = tt

pub on_take_read : (x : TakeAct) (Q R : ℕ → Type 0) → ((a : ℕ) → Q a → R a) → OnTakeRead x Q → OnTakeRead x R
on_take_read (TakeRead a) Q R f h = f a h
on_take_read (TakeTidy w) Q R f h = tt
on_take_read (TakeCommit w x) Q R f h = tt
on_take_read Empty Q R f h = tt
