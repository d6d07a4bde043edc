-- The facts of the queue.
use Rattle.std.specs.Prelude.{◌≡◌, ℕ, ◌+◌, ◌*◌, List, [], ◌∷◌, ◌++◌, length, refl}
use Rattle.std.proofs.Common.{sym, ap, subst, ◌∙◌, inl, inr, arith}
use Rattle.std.proofs.lemmas.List.{take_all, drop_all}
use Rattle.kinds.specs.Views.{View, Owned}
use Rattle.kinds.specs.Plain.{adds}
use Rattle.kinds.specs.Plans.{idle}
use Rattle.kinds.specs.Runs.{Opened}
use Rattle.kinds.proofs.Steady.{Steady}
use Rattle.kinds.proofs.Chains.{Chain, chain_walk}
use Rattle.queue.specs.Queue.{queue_plan}
use Rattle.queue.proofs.Leads.{leads_eq}
use Rattle.queue.proofs.Facts.{Line, queue_way}
use Rattle.queue.proofs.Onward.{Any, covers_any, elsewhere_still, took_still, line_still, each_still}
use Rattle.queue.proofs.Moves.{tail_stays, refilled_stays, took_apart}
use Rattle.queue.proofs.Exact.{tail_exact}
use Rattle.queue.proofs.Sharing.{tail_swaps}
use Rattle.queue.proofs.PutSteps.{put_reads, put_tidies, put_tidied_not, put_commits, put_keeps}
use Rattle.queue.proofs.TakeSteps.{take_reads, take_tidies, take_tidied_not, take_commits, empty_seen, take_keeps}
use Rattle.queue.proofs.Ends.{put_ends, take_ends}

opens : (t n : ℕ) (V : View) → Opened queue_plan t n V → Line t V tt []
opens t n V o = record {
  tray = o.tray;
  lead = V.parcel n;
  chain = subst (λ a. Chain (Owned V t) V a (V.parcel n ∷ [])) (sym o.first) (o.lead.0, refl, o.lead.1);
  tail = leads_eq V t _ _ (o.second ∙ sym o.first);
  lag = inl (ap (λ a. V.word (64 + a)) o.second ∙ o.lead.1);
}

added : (x : ℕ) (xs : List ℕ) → adds queue_plan.rule x xs ≡ xs ++ (x ∷ [])
added x xs = rw (take_all (length xs) xs (omega arith), drop_all (length xs) xs (omega arith))

pub queue_steady : Steady queue_plan queue_way
queue_steady = record {
  rule_within = record { gives_within = λ x xs. omega arith };
  shows = λ t V g xs h. chain_walk (Owned V t) V V.taken (λ m o. (o.positive, o.taken)) (V.word (64 + V.word (2 * t))) xs h.chain.2;
  opens = λ t n V o. (tt, opens t n V o);
  opens_first = λ n. inr (refl, refl);
  opens_second = λ n. inr (refl, refl);
  frame = λ t V V' g xs w h. let s = elsewhere_still t V V' w in (line_still t V V' Any s xs h (covers_any t V xs h), each_still t V V' Any s xs h (covers_any t V xs h));
  take_starts = λ t V g xs h. omega arith;
  take_again = λ t V g xs m b h q. omega arith;
  gets_node = λ t n V V' g xs w h.
      let s = took_still t n V V' w in
      record { aux = tt; shape = line_still t V V' Any s xs h (covers_any t V xs h); own = took_apart t n V V' xs w h; others = λ r f a. each_still t V V' Any s xs h (covers_any t V xs h) r f };
  refilled = λ t n V V' g xs w o h a. refilled_stays t n V V' xs w o h a;
  put_starts = λ t n V g xs o h a. (a, omega arith);
  put_parks = λ t n V g xs m o h q. q.0;
  put_reads = λ t n V V' g xs m o h q. put_reads t V xs h n V' m o q.0 q.1;
  take_reads = λ t V g xs m b h q. take_reads t V xs h m b q;
  put_tidies = λ t n V V' g xs m o h q. put_tidies t V xs h n V' m o q.0 q.1;
  put_tidied_not = λ t n V g xs m o h q. put_tidied_not t V xs h n m q.0 q.1;
  take_tidies = λ t V V' g xs m b h q. take_tidies t V xs h V' m b q;
  take_tidied_not = λ t V g xs m b h q. take_tidied_not t V xs h m b q;
  last_tidies = λ t n V V' g xs m h q. rw (tail_exact t h.tray) (λ at w. tail_stays t V V' xs h m.one n q.behind q.owned q.next at w 0 idle tt tt);
  put_commits = λ t n V V' g xs m o h q. rw (added (V.parcel n) xs) (put_commits t V xs h n V' m o q.0 q.1);
  take_commits = λ t V V' g xs m b h q. take_commits t V xs h V' m b q;
  empty_seen = λ t V g xs m b h q. empty_seen t V xs h m b q;
  put_keeps = λ t n V g xs m o h q. (put_keeps t V xs h n m o q.1, omega arith);
  take_keeps = λ t V g xs m b h q. take_keeps t V xs h m b q;
  last_keeps = λ t n V g xs m h q. rw (tail_exact t h.tray) (tail_swaps t V m.one n h.tray q.behind q.owned);
  put_ends = λ t n V g xs o h q. put_ends t n V xs h q.0.blank;
  take_ends = λ t V g xs b h q. take_ends t V xs h;
}
