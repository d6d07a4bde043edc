-- What a whole session shows.
use Rattle.std.proofs.Common.{◌≡◌, ℕ, List, [], ◌∷◌, Ok, Err, Result, sym, refl, ap, ◌∙◌, subst, inl, inr, arith}
use Rattle.refusals.specs.declared.refusal.Refusal.{Refusal}
use Rattle.refusals.specs.declared.refusal.Refusal.TheVariants.{BadIndex}
use Rattle.records.specs.Tables.{Tables}
use Rattle.board.specs.Numbers.{Numbers}
use Rattle.index.specs.Texts.{texts}
use Rattle.index.proofs.Opened.{refused_as}
use Rattle.lines.specs.Lines.{line_of}
use Rattle.lines.specs.Places.{end_at, written_at}
use Rattle.obey.specs.declared.phase.Phase.TheVariants.{LaidOut}
use Rattle.session.specs.declared.fault.Played.{Played}
use Rattle.session.specs.Plays.{State, state, Ended, damaged, heading, orders_from, on_texts, on_heading, session_of}
use Rattle.session.specs.Laws.{Shows}
use Rattle.session.proofs.Printed.{Holds, starts, prints}
use Rattle.session.proofs.Told.{Lines, printed}

-- what holds of an output that begins with the heading and `more`
told_front : (file out : List ℕ) (ts : List (List ℕ)) (e : Ended) → texts file ≡ Ok ts → Lines 1 ts out heading e → Shows file out e.out e.answer
told_front file out ts e is l = record {
  within = l.holds.room;
  behind = l.holds.behind;
  front = inr (inr (record { orders = ts; opened = is; answers = l.answers; no_more = l.few; lines = l.holds.shown; all = l.all }));
}

-- a damaged file
module _ (file out : List ℕ) (s : State) (h : Holds out s.out heading s.at) (is : texts file ≡ Err BadIndex) where
  damage : (r : Result ℕ Refusal) → end_at s.out s.at (line_of 0 (17 ∷ [])) ≡ r
      → Shows file out (written_at s.out s.at (line_of 0 (17 ∷ []))) (damaged r BadIndex s.at)
  damage (Ok end) ends =
      let p = (prints out s.out heading (line_of 0 (17 ∷ [])) s.at h).ends end ends in
      record { within = p.room; behind = p.behind; front = inr (inl (record { refused = is; line = inr p.shown })) }
  damage (Err cause) ends =
      let p = (prints out s.out heading (line_of 0 (17 ∷ [])) s.at h).stays cause ends in
      record { within = p.room; behind = p.behind; front = inr (inl (record { refused = is; line = inl p.shown })) }

after_heading : (file out : List ℕ) (s : State) (r : Result (List (List ℕ)) Refusal) → texts file ≡ r → Holds out s.out heading s.at → Shows file out (on_texts r s).out (on_texts r s).answer
after_heading file out s (Ok ts) is h = told_front file out ts (orders_from 1 ts s) is (printed 1 ts s out heading h)
after_heading file out s (Err e) is h =
    let bad : e ≡ BadIndex = refused_as file e (sym is) in
    subst (λ (x : Refusal). Shows file out (on_texts (Err x) s).out (on_texts (Err x) s).answer) (sym bad)
    (damage file out s h (is ∙ ap Err bad) (end_at s.out s.at (line_of 0 (17 ∷ []))) refl)

with_heading : (file out : List ℕ) (n : Numbers) (t : Tables) (r : Result ℕ Refusal) → end_at out 0 heading ≡ r → Shows file out (on_heading r file n t (written_at out 0 heading)).out (on_heading r file n t (written_at out 0 heading)).answer
with_heading file out n t (Ok end) is =
    after_heading file out (state (LaidOut n) t end (written_at out 0 heading)) (texts file) refl ((prints out out [] heading 0 (starts out)).ends end is)
with_heading file out n t (Err cause) is =
    let p = (prints out out [] heading 0 (starts out)).stays cause is in
    record { within = omega arith; behind = p.behind; front = inl refl }

pub session_shows : (file out : List ℕ) → Shows file out (session_of file out).out (session_of file out).answer
session_shows file out = with_heading file out _ _ (end_at out 0 heading) refl

-- the same of what equals that
pub equals_shown : (file out out' : List ℕ) (p : Played) → p ≡ (session_of file out).answer → out' ≡ (session_of file out).out → Shows file out out' p
equals_shown file out out' p answer after =
    subst (λ (x : Played). Shows file out out' x) (sym answer) (subst (λ (x : List ℕ). Shows file out x (session_of file out).answer) (sym after) (session_shows file out))
