-- What is left of a walk, counted on from what was counted, gives the count of the whole.
use Rattle.std.proofs.Common.{◌≡◌, ℕ, suc, ◌+◌, ◌-◌, ◌<◌, ◌≤◌, List, ◌∷◌, length, Some, None, Ok, Err, Option, Result, refl, ap, ◌∙◌, arith}
use Rattle.refusals.specs.declared.refusal.Refusal.{Refusal}
use Rattle.refusals.specs.declared.refusal.Refusal.TheVariants.{Torn}
use Rattle.records.specs.declared.entries.Node.{Node}
use Rattle.memory.specs.Seen.{Seen}
use Rattle.memory.specs.Reads.{on_ok}
use Rattle.walks.specs.Walked.{led_to, onward, walked_below, walked, counted}

abbrev pub counted_on : ℕ → Result (List ℕ) Refusal → Result ℕ Refusal
counted_on c r = on_ok r λ xs. Ok (c + length xs)

from_none : (r : Result (List ℕ) Refusal) → counted_on 0 r ≡ counted r
from_none (Ok xs) = ap Ok (omega arith)
from_none (Err e) = refl

pub count_begins : (m : Seen) (most w : ℕ) → counted_on 0 (walked_below m (most + 1 - 0) w) ≡ counted (walked m most w)
count_begins m most w =
    let turns : most + 1 - 0 ≡ suc most = omega arith in
    ap (λ k. counted_on 0 (walked_below m k w)) turns ∙ from_none (walked m most w)

one_more : (c : ℕ) (x : ℕ) (r : Result (List ℕ) Refusal) → counted_on (c + 1) r ≡ counted_on c (on_ok r λ xs. Ok (x ∷ xs))
one_more c x (Ok xs) = ap Ok (omega arith)
one_more c x (Err e) = refl

-- c of n turns are done, and the word w is next
module _ (m : Seen) (n c w : ℕ) (whole : Result ℕ Refusal) (inv : counted_on c (walked_below m (n - c) w) ≡ whole) where
  pub count_torn : n ≤ c → Err Torn ≡ whole
  count_torn h = let none : 0 ≡ n - c = omega arith in ap (λ k. counted_on c (walked_below m k w)) none ∙ inv

  module _ (h : c < n) where
    turn : (r : Result (Option Node) Refusal) → r ≡ led_to m w → counted_on c (on_ok r λ o. onward o (λ v. walked_below m (n - (c + 1)) v)) ≡ whole
    turn r is =
        let turns : suc (n - (c + 1)) ≡ n - c = omega arith in
        ap (λ q. counted_on c (on_ok q λ o. onward o (λ v. walked_below m (n - (c + 1)) v))) is ∙ ap (λ k. counted_on c (walked_below m k w)) turns ∙ inv

    pub count_more : (x : Node) → Ok (Some x) ≡ led_to m w → counted_on (c + 1) (walked_below m (n - (c + 1)) x.next) ≡ whole
    count_more x is = one_more c x.parcel (walked_below m (n - (c + 1)) x.next) ∙ turn (Ok (Some x)) is

    pub count_ends : Ok None ≡ led_to m w → Ok c ≡ whole
    count_ends is = let same : c ≡ c + 0 = omega arith in ap Ok same ∙ turn (Ok None) is

    pub count_stops : (e : Refusal) → Err e ≡ led_to m w → Err e ≡ whole
    count_stops e is = turn (Err e) is
