-- Requests that are left alone come to their commits.
use mathlib.Core.Path.{◌≡◌, refl, sym, ap, subst, ◌∙◌}
use mathlib.Core.Bool.{true, false, ◌||◌}
use mathlib.Core.List.{List, [], ◌∷◌, ◌++◌}
use Prim.Native.Nat.{ℕ, zero, suc, ◌+◌}
use native.Mathlib.Omega.{arith}
use native.Mathlib.Decide.{ℕ_discrete}
use lib.ListN.{take, drop, get_or}
use Rattle.kinds.specs.declared.acts.Notes.{Notes}
use Rattle.kinds.specs.declared.acts.PutAct.{PutAct}
use Rattle.kinds.specs.declared.acts.PutAct.TheVariants.{Read as PutRead, Tidy as PutTidy, Commit as PutCommit}
use Rattle.kinds.specs.declared.acts.TakeAct.{TakeAct}
use Rattle.kinds.specs.declared.acts.TakeAct.TheVariants.{Read as TakeRead, Tidy as TakeTidy, Commit as TakeCommit, Empty}
use Rattle.kinds.specs.Views.{View}
use Rattle.kinds.specs.Plain.{Rule, Within, adds, gives, yields}
use Rattle.kinds.specs.Plans.{Plan, start, found_nothing, idle, puts, rests, takes, Requests, is_empty, finds, did, did_not}
use Rattle.kinds.specs.Runs.{Reached, Takes, quietly, by_put, by_take, put_commits, take_commits}
use Rattle.kinds.specs.Runs.{put_reads as quiet_put_reads, put_tidies as quiet_put_tidies, take_reads as quiet_take_reads, take_tidies as quiet_take_tidies}
use Rattle.kinds.specs.Points.{Points, hit, miss, PutEnds, TakeEnds}
use Rattle.kinds.specs.Points.{PutAlone as PutActAlone, TakeAlone as TakeActAlone}
use Rattle.kind_theorems.specs.Alone.{PutAlone, put_here, put_reads, put_tidies, TakeAlone, take_here, take_reads, take_tidies, PutDone, TakeDone, PutThenTake}
use Rattle.kind_theorems.proofs.Made.{written, wrote, turned, turns, same}

module _ (P : Plan) (F : Points P) (t s : ℕ) where
  -- the put has put x in, where xs was
  record Added (n : ℕ) (V : View) (m : Notes) (x : ℕ) (xs : List ℕ) : Type 0 where
    view : View
    requests : Requests
    done : PutDone P t n V m x view requests
    reached : Reached P t view requests
    holds : P.contents t view ≡ adds P.rule x xs

  -- one act more in front
  put_before : {n x : ℕ} {V V' : View} {m m' : Notes} {xs : List ℕ} → ((V'' : View) (m'' : Notes) → PutAlone P t n V' m' V'' m'' → PutAlone P t n V m V'' m'') → Added n V' m' x xs → Added n V m x xs
  put_before front a =
      let d = a.done in
      record {
        view = a.view;
        requests = a.requests;
        done = record { before = d.before; requests = d.requests; notes = d.notes; alone = front d.before d.notes d.alone; commits = d.commits };
        reached = a.reached;
        holds = a.holds;
      }

  put_alone : (k n : ℕ) (V : View) (E : Requests) (m : Notes) (xs : List ℕ) → PutEnds P t k V n m → Reached P t V E → E s ≡ puts n m → P.contents t V ≡ xs → Added n V m (V.parcel n) xs
  put_alone zero n V E m xs ends r is now = absurd ends
  put_alone (suc k) n V E m xs ends r is now = go (P.put_act t n m) refl ends (λ V' E' m'. put_alone k n V' E' m' xs)
    where
      go : (x : PutAct) → P.put_act t n m ≡ x → PutActAlone P (λ V' m'. PutEnds P t k V' n m') V n m x →
          ((V' : View) (E' : Requests) (m' : Notes) → PutEnds P t k V' n m' → Reached P t V' E' → E' s ≡ puts n m' → P.contents t V' ≡ xs → Added n V' m' (V'.parcel n) xs) → Added n V m (V.parcel n) xs
      go (PutRead a) act h on =
          let m' = P.put_noted m (finds P V (V.word a)) in
          let wr = wrote V (64 + n) (P.fill m') in
          let V' = written V (64 + n) (P.fill m') in
          let turn = turns E s (puts n m') in
          let quiet = quiet_put_reads s n m a is act wr turn in
          let kept = F.others_keep t V V' E _ r quiet in
          put_before (λ V'' m''. put_reads a act wr) (subst (λ x. Added n V' m' x xs) (wr.nodes.parcels n) (on V' _ m' (h V' wr) (quietly r quiet) turn.here (kept ∙ now)))
      go (PutTidy w) act h on = swap (ℕ_discrete (V.word w.address) w.old)
        where
          m' : Notes
          m' = P.put_noted m found_nothing

          swap : Dec (V.word w.address ≡ w.old) → Added n V m (V.parcel n) xs
          swap (yes q) =
              let wr = wrote V w.address w.new in
              let V' = written V w.address w.new in
              let turn = turns E s (puts n (P.put_noted m found_nothing)) in
              let quiet = quiet_put_tidies s n m w is act (did q wr) turn in
              let kept = F.others_keep t V V' E _ r quiet in
              put_before (λ V'' m''. put_tidies w act (hit q wr)) (subst (λ x. Added n V' (P.put_noted m found_nothing) x xs) (wr.nodes.parcels n) (on V' _ (P.put_noted m found_nothing) (h V' (hit q wr)) (quietly r quiet) turn.here (kept ∙ now)))
          swap (no q) =
              let turn = turns E s (puts n (P.put_noted m found_nothing)) in
              let quiet = quiet_put_tidies s n m w is act (did_not (same V)) turn in
              put_before (λ V'' m''. put_tidies w act (miss q (same V))) (on V _ (P.put_noted m found_nothing) (h V (miss q (same V))) (quietly r quiet) turn.here now)
      go (PutCommit w) act h on =
          let wr = wrote V w.address w.new in
          let p = put_commits s n m w is act h wr (turns E s (rests n m)) in
          record {
            view = written V w.address w.new;
            requests = turned E s (rests n m);
            done = record { before = V; requests = E; notes = m; alone = put_here; commits = p };
            reached = by_put r p;
            holds = F.put_adds t V _ E _ _ r p ∙ ap (adds P.rule (V.parcel n)) now;
          }

-- from a list of one parcel a take gives that one
only_one : (r : Rule) → Within r → (x : ℕ) → yields r (x ∷ []) ≡ gives x []
only_one r within x =
    let first : r.gives_at (x ∷ []) ≡ 0 = let less = within.gives_within x [] in omega (arith, less) in
    ap (λ i. gives (get_or (x ∷ []) i 0) (take i (x ∷ []) ++ drop (i + 1) (x ∷ []))) first

module _ (P : Plan) (F : Points P) (t s x : ℕ) where
  -- the take has taken x out, which was alone in the tray
  record Removed (V : View) (m : Notes) : Type 0 where
    view : View
    requests : Requests
    done : TakeDone P t V m x view requests
    reached : Reached P t view requests
    holds : P.contents t view ≡ []

  take_before : {V V' : View} {m m' : Notes} → ((V'' : View) (m'' : Notes) → TakeAlone P t V' m' V'' m'' → TakeAlone P t V m V'' m'') → Removed V' m' → Removed V m
  take_before front a =
      let d = a.done in
      record {
        view = a.view;
        requests = a.requests;
        done = record { before = d.before; requests = d.requests; notes = d.notes; alone = front d.before d.notes d.alone; commits = d.commits };
        reached = a.reached;
        holds = a.holds;
      }

  take_alone : (k : ℕ) (V : View) (E : Requests) (m : Notes) → TakeEnds P t k V m → Reached P t V E → E s ≡ takes m false → P.contents t V ≡ x ∷ [] → Removed V m
  take_alone zero V E m ends r is now = absurd ends
  take_alone (suc k) V E m ends r is now = go (P.take_act t m) refl ends (λ V' E' m'. take_alone k V' E' m')
    where
      go : (a : TakeAct) → P.take_act t m ≡ a → TakeActAlone P (λ V' m'. TakeEnds P t k V' m') V m a →
          ((V' : View) (E' : Requests) (m' : Notes) → TakeEnds P t k V' m' → Reached P t V' E' → E' s ≡ takes m' false → P.contents t V' ≡ x ∷ [] → Removed V' m') → Removed V m
      go (TakeRead a) act h on =
          let m' = P.take_noted m (finds P V (V.word a)) in
          let turn = turns E s (takes m' (false || is_empty (P.contents t V))) in
          let quiet = quiet_take_reads s m false a is act turn in
          let unmarked : is_empty (P.contents t V) ≡ false = ap is_empty now in
          take_before (λ V'' m''. take_reads a act) (on V _ m' h (quietly r quiet) (turn.here ∙ ap (takes m') unmarked) now)
      go (TakeTidy w) act h on = swap (ℕ_discrete (V.word w.address) w.old)
        where
          swap : Dec (V.word w.address ≡ w.old) → Removed V m
          swap (yes q) =
              let wr = wrote V w.address w.new in
              let V' = written V w.address w.new in
              let turn = turns E s (takes (P.take_noted m found_nothing) false) in
              let quiet = quiet_take_tidies s m false w is act (did q wr) turn in
              let kept = F.others_keep t V V' E _ r quiet in
              take_before (λ V'' m''. take_tidies w act (hit q wr)) (on V' _ (P.take_noted m found_nothing) (h V' (hit q wr)) (quietly r quiet) turn.here (kept ∙ now))
          swap (no q) =
              let turn = turns E s (takes (P.take_noted m found_nothing) false) in
              let quiet = quiet_take_tidies s m false w is act (did_not (same V)) turn in
              take_before (λ V'' m''. take_tidies w act (miss q (same V))) (on V _ (P.take_noted m found_nothing) (h V (miss q (same V))) (quietly r quiet) turn.here now)
      go (TakeCommit w y) act h on =
          let wr = wrote V w.address w.new in
          let V' = written V w.address w.new in
          let p = take_commits s m false w y is act h wr (turns E s idle) in
          let gave : gives x [] ≡ gives y (P.contents t V') = sym (only_one P.rule F.rule_within x) ∙ ap (yields P.rule) (sym now) ∙ F.take_gives t V V' E _ y r p in
          let this : y ≡ x = cc in
          let none : P.contents t V' ≡ [] = cc in
          record {
            view = V';
            requests = turned E s idle;
            done = record { before = V; requests = E; notes = m; alone = take_here; commits = subst (λ z. Takes P t V E z V' (turned E s idle)) this p };
            reached = by_take r p;
            holds = none;
          }
      go Empty act h on =
          let seen : false ≡ true = F.empty_seen t V E r s m false is act in
          let z : ◌≡◌ {A = ℕ} 0 1 = cc in
          let no_way : ⊥ = omega (arith, z) in
          absurd no_way

-- a list that was empty holds the one parcel that was added
added_to_none : (r : Rule) (x : ℕ) → adds r x [] ≡ x ∷ []
added_to_none r x = none_taken (r.adds_at x [])
  where
    none_taken : (i : ℕ) → take i [] ++ x ∷ drop i [] ≡ x ∷ []
    none_taken zero = refl
    none_taken (suc i) = refl

pub put_then_take : (P : Plan) → Points P → PutThenTake P
put_then_take P F t V E r none s n is =
    let a = put_alone P F t s P.most n V E start [] (F.put_ends t V E r s n is) r is none in
    let holds = a.holds ∙ added_to_none P.rule (V.parcel n) in (
      a.view,
      a.requests,
      a.done,
      a.reached,
      holds,
      λ q E₂ turn r₂.
          let b = take_alone P F t q (V.parcel n) P.most a.view E₂ start (F.take_ends t a.view E₂ r₂ q false turn.here) r₂ turn.here holds in
          (b.view, b.requests, b.done, b.reached, b.holds),
    )
