-- Laying a tray adds just that tray.
use Rattle.std.proofs.Common.{◌≡◌, ℕ, ◌+◌, ◌*◌, ◌^◌, ◌<◌, ◌≤◌, Bool, true, false, cond, ltb, List, length, get_or, set, Ok, sym, refl, ap, ◌∙◌, subst, inl, inr, arith, length-set, get_or-set_other, get_or-set_same}
use Rattle.std.proofs.lemmas.Bool.Decides.{nat_tests}
use Rattle.refusals.specs.declared.refusal.Refusal.TheVariants.{TableLength, TraysFull, NodesFull}
use Rattle.records.specs.declared.entries.Node.{Node}
use Rattle.records.specs.Tables.{Tables, zero_node}
use Rattle.places.specs.Places.{has_place, taken_after}
use Rattle.kinds.specs.Plans.{Plan}
use Rattle.kinds.specs.Points.{Points, OpeningWord}
use Rattle.board.specs.Numbers.{Numbers, fits}
use Rattle.board.specs.Kinds.{capped}
use Rattle.board.specs.Lays.{Laid, laid, opens_with, opens_tray, lays, with_nodes, refused}
use Rattle.board.specs.Takes.{numbers_with_node, nodes_with_node, with_nodes_taken}
use Rattle.board.specs.Laws.{Fresh, AddsTray, Laying}
use Rattle.board.proofs.Kept.{new_digit, old_digit}

-- what a call leaves is as the law says
abbrev Lawful : ℕ → Numbers → Tables → Laid → Type 0
Lawful kind n t l = Laying kind n l.board t l.tables l.answer

-- the opening word, in terms of the counts before and after
fresh : (n n' : Numbers) (takes : Bool) (node word : ℕ) → (takes ≡ true → (n.nodes.taken < node) × (node ≤ n'.nodes.taken)) → OpeningWord takes node word → Fresh n n' word
fresh n n' takes node word new (inl none) = inl none
fresh n n' takes node word new (inr (yes_takes, is)) = inr (rw is (new yes_takes))

module _ (plan : Plan) (points : Points plan) (kind : ℕ) (n : Numbers) (t : Tables) (room : length t.words ≡ 64) (few : n.trays < 32) (digits : n.kinds < 2 ^ (4 * n.trays)) where
  -- the counts and the nodes are those after a node was taken, if the kind asks for one
  added : (taken : ℕ) (nodes : List Node) (node : ℕ)
      → ((i : ℕ) → i < n.nodes.taken → get_or nodes i zero_node ≡ get_or t.nodes i zero_node)
      → (plan.takes_node ≡ true → (n.nodes.taken < node) × (node ≤ taken))
      → Lawful kind n t (opens_with plan (capped kind) (with_nodes_taken n taken) (with_nodes t nodes) node)
  added taken nodes node kept new =
      let first : List ℕ = set t.words (2 * n.trays) (plan.first node) in
      let long : length first ≡ 64 = length-set t.words (2 * n.trays) (plan.first node) ∙ room in
      let here : get_or (set first (2 * n.trays + 1) (plan.second node)) (2 * n.trays) 0 ≡ plan.first node =
      get_or-set_other first (2 * n.trays + 1) (2 * n.trays) (plan.second node) 0 (omega arith) ∙ get_or-set_same t.words (2 * n.trays) (plan.first node) 0 (omega arith) in
      let there : get_or (set first (2 * n.trays + 1) (plan.second node)) (2 * n.trays + 1) 0 ≡ plan.second node =
      get_or-set_same first (2 * n.trays + 1) (plan.second node) 0 (omega arith) in
      let digit = new_digit n.trays (capped kind) n.kinds (omega arith) digits in
      record {
        next = refl;
        one_more = refl;
        its_kind = grind (arith, nat_tests, digit);
        other_kinds = λ u less. let same = old_digit u n.trays (capped kind) n.kinds less in grind (arith, nat_tests, same);
        first_word = fresh n (with_nodes_taken n taken) plan.takes_node node _ new (rw here (points.opens_first node));
        second_word = fresh n (with_nodes_taken n taken) plan.takes_node node _ new (rw there (points.opens_second node));
        other_words = λ a no_first no_second. get_or-set_other first (2 * n.trays + 1) a (plan.second node) 0 no_second ∙ get_or-set_other t.words (2 * n.trays) a (plan.first node) 0 no_first;
        taken_nodes = kept;
        descriptors = refl;
        scanners = refl;
      }

  -- taking a node changes no node that was taken before
  kept_if : (b : Bool) (i : ℕ) → i < n.nodes.taken → get_or (cond b (set t.nodes n.nodes.taken zero_node) t.nodes) i zero_node ≡ get_or t.nodes i zero_node
  kept_if true i less = get_or-set_other t.nodes n.nodes.taken i zero_node zero_node (omega arith)
  kept_if false i less = refl

  took : (left : Bool) → has_place n.nodes.room n.nodes.taken ≡ left
      → Lawful kind n t (cond left (opens_with plan (capped kind) (numbers_with_node n) (with_nodes t (nodes_with_node n t.nodes)) (n.nodes.taken + 1)) (refused n t NodesFull))
  took true has =
      let more : taken_after n.nodes.room n.nodes.taken ≡ n.nodes.taken + 1 = ap (λ b. cond b (n.nodes.taken + 1) n.nodes.taken) has in
      added (taken_after n.nodes.room n.nodes.taken) (nodes_with_node n t.nodes) (n.nodes.taken + 1)
      (kept_if (has_place (length t.nodes) n.nodes.taken)) (λ _. (omega arith, omega (arith, more)))
  took false has = (refl, refl)

  -- a node is taken where the kind asks for one
  opened_lawful : (takes : Bool) → takes ≡ plan.takes_node → Lawful kind n t (opens_tray takes plan (capped kind) n t)
  opened_lawful true is = took (has_place n.nodes.room n.nodes.taken) refl
  opened_lawful false is =
      added n.nodes.taken t.nodes 0 (λ i less. refl) (λ e. let z : ◌≡◌ {A = ℕ} 0 1 = ap (λ b. cond b 1 0) (is ∙ e) in omega (arith, z))

module _ (plan : ℕ → Plan) (points : (k : ℕ) → Points (plan k)) (n : Numbers) (t : Tables) (kind : ℕ) (digits : n.kinds < 2 ^ (4 * n.trays)) where
  laid_if : (fit few : Bool) → fits n t ≡ fit → ltb n.trays 32 ≡ few
      → Lawful kind n t (cond fit (cond few (opens_tray (plan (capped kind)).takes_node (plan (capped kind)) (capped kind) n t) (refused n t TraysFull)) (refused n t TableLength))
  laid_if true true fit few =
      let room : length t.words ≡ 64 = grind (arith, nat_tests, fit) in
      let less : n.trays < 32 = grind (arith, nat_tests, few) in
      opened_lawful (plan (capped kind)) (points (capped kind)) kind n t room less digits (plan (capped kind)).takes_node refl
  laid_if true false fit few = (refl, refl)
  laid_if false few fit _ = (refl, refl)

  pub laid_lawful : Lawful kind n t (lays plan n t kind)
  laid_lawful = laid_if (fits n t) (ltb n.trays 32) refl refl

-- the law, for a tray that was laid as the definition lays it
pub equals_laid : (kind : ℕ) (n : Numbers) (t : Tables) (l : Laid) → Lawful kind n t l → (tray : ℕ) (n' : Numbers) (t' : Tables) → laid (Ok tray) n' t' ≡ l → AddsTray kind n n' t t' tray
equals_laid kind n t l law tray n' t' is = subst (λ (x : Laid). Lawful kind n t x) (sym is) law
