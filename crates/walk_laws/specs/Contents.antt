-- What a walk gives, in tables that are whole.
use Rattle.std.specs.Prelude.{◌≡◌, ℕ, ◌+◌, ◌*◌, ◌<◌, ◌≤◌, List, [], ◌∷◌, Ok}
use Rattle.memory.specs.Seen.{Seen}
use Rattle.memory.specs.Reads.{word_at}
use Rattle.memory.specs.Meaning.{stands_for}
use Rattle.kinds.specs.Views.{View}
use Rattle.kinds.specs.Walks.{walk}
use Rattle.kinds.specs.Plans.{Requests}
use Rattle.kinds.specs.Runs.{Reached}
use Rattle.stack.specs.Stack.{stack_plan}
use Rattle.queue.specs.Queue.{queue_plan}
use Rattle.walks.specs.Walked.{walked}
use Rattle.walk_laws.specs.Seeing.{view_of, Whole}

-- From n along next words stand the parcels xs, each in a taken node, and then nil.
abbrev pub Leads : View → ℕ → List ℕ → Type 0
Leads V n [] = n ≡ 0
Leads V n (x ∷ xs) = (0 < n) × (n ≤ V.taken) × (V.parcel n ≡ x) × Leads V (V.word (64 + n)) xs

-- From a word that stands for n, where a finite chain begins, the walk through the tables gives what the walk through the view gives.
abbrev pub WalkGivesParcels : Type 0
WalkGivesParcels =
    (m : Seen) (own : ℕ → ℕ) (h : Whole m) (w n : ℕ) (xs : List ℕ) →
    stands_for m w ≡ Ok n → Leads (view_of m own h.few) n xs →
    walked m m.nodes_taken w ≡ Ok (walk m.nodes_taken (view_of m own h.few) n)

-- At every stack that can have come about, the walk from its first word gives its contents.
abbrev pub WalkGivesStack : Type 0
WalkGivesStack =
    (m : Seen) (own : ℕ → ℕ) (h : Whole m) (t : ℕ) (E : Requests) (w : ℕ) →
    Reached stack_plan t (view_of m own h.few) E → word_at m (2 * t) ≡ Ok w →
    walked m m.nodes_taken w ≡ Ok (stack_plan.contents t (view_of m own h.few))

-- At every queue, the walk from the next word of its leading node, for which its first word stands.
abbrev pub WalkGivesQueue : Type 0
WalkGivesQueue =
    (m : Seen) (own : ℕ → ℕ) (h : Whole m) (t : ℕ) (E : Requests) (first lead w : ℕ) →
    Reached queue_plan t (view_of m own h.few) E → word_at m (2 * t) ≡ Ok first → stands_for m first ≡ Ok lead → word_at m (64 + lead) ≡ Ok w →
    walked m m.nodes_taken w ≡ Ok (queue_plan.contents t (view_of m own h.few))
