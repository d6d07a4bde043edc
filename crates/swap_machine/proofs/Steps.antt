-- Each step keeps the invariant, and does what the theorem says of a step.
use Rattle.std.proofs.Common.{◌≡◌, refl, sym, subst, Bool, ◌≢◌, inl, inr, ℕ, arith}
use Rattle.swap_machine.specs.Machine.{Outcome, fresh, Memory, Position, at_publish, State, Event, decided, answers, Ended, Act, Step, wait, act}
use Rattle.swap_machine.specs.Positions.{AboutToPlace}
use Rattle.swap_machine.specs.Meaning.{taken}
use Rattle.swap_machine.specs.Invariant.{Live, InPlace, Knows, Required, Invariant}
use Rattle.swap_machine.specs.Safety.{Later, same, publishes, fails, wins, finishes, Initial, Good, Orderly}
use Rattle.swap_machine.proofs.Stable.{moved}
use Rattle.swap_machine.proofs.Acts.{acts}
use Rattle.swap_machine.proofs.Values.{says}
use Rattle.swap_machine.proofs.Runs.{own_on, helping_on, no_swap, own_ends, nothing_written, answer_ends}
use Rattle.swap_machine.proofs.Descriptors.{live_before, prepared}

pub initially : (σ : State) → Initial σ → Invariant σ
initially σ i =
    record {
      sound =
          record {
            in_place = λ a. let p = i.plain_words a in subst (InPlace σ.memory a) (sym p.1) tt;
            installed = λ d u. let f = i.all_fresh d in grind arith;
          };
      knows = λ s. subst (Knows σ.memory s) (sym (i.all_idle s)) tt;
      exclusive = λ s t d h _. subst (AboutToPlace d) (i.all_idle s) h;
      owned = λ d l. absurd (subst Live (i.all_fresh d) l);
      required = λ s d. subst (Required σ.memory s (σ.at s) d) (sym (i.all_fresh d)) tt;
    }

pub kept : (σ τ : State) (e : Event) → Invariant σ → Step σ e τ → Invariant τ
kept σ τ e inv wait = inv
kept σ τ e inv (act s {m' = m} {c} a) = moved e s σ m c inv (acts s σ inv a (inv.knows s) (λ t d. inv.exclusive t s d) (inv.required s))

-- where d is not decided, its swap has taken place only if it had before
pub uncounted : {e : Event} {d : ℕ} {r q : Outcome} → e ≢ decided d → Later e d r q → taken q ≡ taken r
uncounted h same = refl
uncounted h publishes = refl
uncounted h fails = refl
uncounted h (wins e) = absurd (h e)
uncounted h finishes = refl

pub good : (σ τ : State) (e : Event) → Invariant σ → Step σ e τ → Good σ e τ
good σ τ e inv wait = record { says = λ a. refl; later = λ d. same; not_taken = λ d n. refl; same_fields = λ d l. refl }
good σ τ e inv (act s a) =
    let mv = acts s σ inv a (inv.knows s) (λ t d. inv.exclusive t s d) (inv.required s) in
    record {
      says = says σ inv s a (inv.knows s) (inv.required s);
      later = mv.effect.rely.later;
      not_taken = λ d n. uncounted n (mv.effect.rely.later d);
      same_fields = λ d l. (mv.effect.rely.kept d l).same_fields;
    }

module _ (σ : State) (inv : Invariant σ) (s : ℕ) where
  abbrev m : Memory
  m = σ.memory

  -- an answer is what the result says
  confirmed : (d : ℕ) (ok : Bool) {e : Event} {m' : Memory} {c : Position} → e ≡ answers d ok → Act s m (σ.at s) e m' c → Ended ok (m'.result d)
  confirmed d ok {m' = m'} {c = c} q a = (says σ inv s (subst (λ e. Act s m (σ.at s) e m' c) q a) (inv.knows s) (inv.required s)).1

  unpublished : (d : ℕ) → σ.at s ≡ at_publish d → m.result d ≡ fresh
  unpublished d q = (subst (Knows m s) q (inv.knows s)).0

  pub orderly : (e : Event) (m' : Memory) (c : Position) → Act s m (σ.at s) e m' c → Orderly s m (σ.at s) e m' c
  orderly e m' c a =
      record {
        own_on = λ d k n. own_on d a n k;
        helping_on = λ n k. helping_on a n k;
        no_swap = λ p x y q. no_swap p x y (subst (λ e. Act s m (σ.at s) e m' c) q a);
        own_ends = λ d k q.
            elim (own_ends d (subst (λ c. Act s m (σ.at s) e m' c) q a) k) [ inl p ↦ inl p | inr p ↦ inr (p.0, p.1, confirmed d p.0 p.1 a) ];
        nothing_written = λ d q.
            let p = nothing_written d (subst (λ e. Act s m (σ.at s) e m' c) q a) in
            (p.0, p.1, p.2, unpublished d p.0);
        answer_ends = λ d ok q.
            let p = answer_ends d ok (subst (λ e. Act s m (σ.at s) e m' c) q a) in
            (p.0, p.1, confirmed d ok q a);
        live_before = λ d l. live_before d a (inv.knows s) l;
        prepared = λ d. prepared d a;
      }
