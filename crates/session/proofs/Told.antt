-- Every order has its line.
use Rattle.std.proofs.Common.{◌≡◌, ℕ, ◌+◌, ◌≤◌, List, [], ◌∷◌, ◌++◌, length, None, Ok, Err, Result, refl, arith}
use Rattle.refusals.specs.declared.refusal.Refusal.{Refusal}
use Rattle.lines.specs.Lines.{line_of}
use Rattle.lines.specs.Places.{end_at, written_at}
use Rattle.obey.specs.Obeys.{Done, obeys}
use Rattle.obey.specs.Prints.{values}
use Rattle.session.specs.Plays.{State, state, Ended, on_line, orders_from}
use Rattle.session.specs.Laws.{lines_from}
use Rattle.session.proofs.Printed.{Holds, prints, regrouped, nothing_added}

-- the orders ts, the first of which is number `order`, have added their lines to what was in front
pub record Lines (order : ℕ) (ts : List (List ℕ)) (out front : List ℕ) (e : Ended) : Type 0 where
  pub answers : List (List ℕ)
  pub few : length answers ≤ length ts
  pub holds : Holds out e.out (front ++ lines_from order answers) e.answer.written
  pub all : e.answer.fault ≡ None → length answers ≡ length ts

-- one order has added its line, or ended the session
module _ (order : ℕ) (text : List ℕ) (ts : List (List ℕ)) (s : State) (out front : List ℕ) (h : Holds out s.out front s.at) (d : Done) where
  line : List ℕ
  line = line_of order (values d.done.reply)

  after : ℕ → State
  after at = state d.done.phase d.tables at (written_at s.out s.at (line_of order (values d.done.reply)))

  one_line : (e : Result ℕ Refusal) → end_at s.out s.at (line_of order (values d.done.reply)) ≡ e
      → ((next : State) (new : List ℕ) → Holds out next.out new next.at → Lines (order + 1) ts out new (orders_from (order + 1) ts next))
      → Lines order (text ∷ ts) out front (on_line order e (after s.at) (λ end. orders_from (order + 1) ts (after end)))
  unfolding after line
  one_line (Ok end) is more =
      let p = prints out s.out front line s.at h in
      let r = more (after end) (front ++ line) (p.ends end is) in
      record {
        answers = values d.done.reply ∷ r.answers;
        few = omega (arith, r.few);
        holds = regrouped out _ front line (lines_from (order + 1) r.answers) _ r.holds;
        all = λ none. let same = r.all none in omega (arith, same);
      }
  one_line (Err cause) is more =
      let p = prints out s.out front line s.at h in
      record {
        answers = [];
        few = omega arith;
        holds = nothing_added out _ front _ (p.stays cause is);
        all = λ none. let z : ◌≡◌ {A = ℕ} 0 1 = cc in let no : ⊥ = omega (arith, z) in absurd no;
      }

pub printed : (order : ℕ) (ts : List (List ℕ)) (s : State) (out front : List ℕ) → Holds out s.out front s.at → Lines order ts out front (orders_from order ts s)
unfolding after
printed order [] s out front h = record { answers = []; few = omega arith; holds = nothing_added out _ front _ h; all = λ _. refl }
printed order (text ∷ ts) s out front h =
    one_line order text ts s out front h (obeys s.phase text s.tables) (end_at s.out s.at (line_of order (values (obeys s.phase text s.tables).done.reply))) refl
    (λ next new held. printed (order + 1) ts next out new held)
