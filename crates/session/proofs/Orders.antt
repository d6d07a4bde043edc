-- What one order makes of those that are left.
use Rattle.std.proofs.Common.{◌≡◌, ℕ, ◌+◌, List, [], ◌∷◌, Ok, Err, Result, sym, ap, ◌∙◌}
use Rattle.refusals.specs.declared.refusal.Refusal.{Refusal}
use Rattle.records.specs.Tables.{Tables}
use Rattle.lines.specs.Lines.{line_of}
use Rattle.lines.specs.Places.{end_at, written_at}
use Rattle.obey.specs.declared.phase.Obeyed.{Obeyed}
use Rattle.obey.specs.Obeys.{Done, did, obeys}
use Rattle.obey.specs.Prints.{values}
use Rattle.session.specs.declared.fault.Played.{Played}
use Rattle.session.specs.Plays.{State, state, Ended, ended, whole, broken, on_line, after_order, orders_from}

-- where no order has been carried out yet
pub all_left : (n : ℕ) → n ≡ 1 → (left texts : List (List ℕ)) → left ≡ texts → (s : State) → orders_from n left s ≡ orders_from 1 texts s
all_left n e left texts same s j = orders_from (e j) (same j) s

-- before order n
module _ (n : ℕ) (left : List (List ℕ)) (s : State) (all : Ended) (inv : orders_from n left s ≡ all) where
  pub no_more : left ≡ [] → ended (whole s.at) s.out s.tables ≡ all
  no_more e = sym (ap (λ l. orders_from n l s) e) ∙ inv

  -- the order does r and leaves the tables t, and its line leaves `out`
  module _ (order : ℕ) (here : order ≡ n) (text : List ℕ) (rest : List (List ℕ)) (is : left ≡ text ∷ rest)
      (r : Obeyed) (t : Tables) (obeyed : did r t ≡ obeys s.phase text s.tables)
      (out : List ℕ) (wrote : out ≡ written_at s.out s.at (line_of order (values r.reply))) where
    next : after_order order (obeys s.phase text s.tables) s (orders_from (order + 1) rest) ≡ all
    next = (λ j. orders_from (here j) (sym is j) s) ∙ inv

    does : r ≡ (obeys s.phase text s.tables).done
    does = ap (λ (d : Done). d.done) obeyed

    leaves : t ≡ (obeys s.phase text s.tables).tables
    leaves = ap (λ (d : Done). d.tables) obeyed

    writes : out ≡ written_at s.out s.at (line_of order (values (obeys s.phase text s.tables).done.reply))
    writes = wrote ∙ ap (λ (x : Obeyed). written_at s.out s.at (line_of order (values x.reply))) does

    line : (e : Result ℕ Refusal) → e ≡ end_at s.out s.at (line_of order (values r.reply))
        → on_line order e (state r.phase t s.at out) (λ end. orders_from (order + 1) rest (state r.phase t end out)) ≡ all
    line e at =
        let ends = at ∙ ap (λ (x : Obeyed). end_at s.out s.at (line_of order (values x.reply))) does in
        (λ j. on_line order (ends j) (state (does j).phase (leaves j) s.at (writes j)) (λ end. orders_from (order + 1) rest (state (does j).phase (leaves j) end (writes j)))) ∙ next

    pub goes_on : (end : ℕ) → Ok end ≡ end_at s.out s.at (line_of order (values r.reply)) → (m : ℕ) → m ≡ order + 1 → orders_from m rest (state r.phase t end out) ≡ all
    goes_on end at m e = ap (λ k. orders_from k rest (state r.phase t end out)) e ∙ line (Ok end) at

    pub stops : (cause : Refusal) → Err cause ≡ end_at s.out s.at (line_of order (values r.reply)) → (p : Played) → p ≡ broken order cause s.at → ended p out t ≡ all
    stops cause at p says = ap (λ x. ended x out t) says ∙ line (Err cause) at
