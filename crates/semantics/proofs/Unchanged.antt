-- What a call leaves as it was. Assumes nothing.
use Prim.Native.Nat.{ℕ}
use mathlib.Core.Path.{◌≡◌, refl, ap, subst, ◌∙◌}
use mathlib.Core.Option.{none}
use mathlib.Core.Logic.{◌⊎◌, inl, inr, ◌≢◌}
use lib.ListN.{get_or}
use lib.Seq.{get_or-set_other}
use Rattle.tasklist.specs.Accepted.{Accepted}
use Rattle.semantics.specs.Run.{Run, Context, mode_of, task_of, start_weight, end_weight}
use Rattle.semantics.specs.Effect.{Edit, keep, put, add, Effect, own, in_state, leaving}
use Rattle.semantics.specs.Plan.{start, end}
use Rattle.semantics.specs.Call.{Call, refuse, accept, decide, edited, charged, apply, taken, call, or_same, after}
use Rattle.semantics.specs.Sound.{In, Valid}
use Rattle.semantics.proofs.Modes.{only_writers, only_summers}
use Rattle.semantics.proofs.Apply.{touched, numbers_in, task_other}
use Rattle.semantics.proofs.Decide.{Settled, Accepts, settled_ready}
use Rattle.semantics.proofs.Valid.{never_state, accepted_fair, made_is_future}
use Rattle.semantics.proofs.Kept.{self_record}
use Rattle.semantics.proofs.Diamond.{Backed, backed}
use Rattle.semantics.proofs.Front.{start_plan, end_plan}

-- "a refused call leaves it as it was"
pub refused_same : (c : Context) (r : Run) (b : Call) → call c r b ≡ none → after c r b ≡ r
unfolding after
refused_same c r b q = ap (or_same r) q

-- the run after a call, by what was decided
pub after_refuse : (c : Context) (r : Run) (b : Call) (k : ℕ) → decide c r b ≡ refuse k → after c r b ≡ r
unfolding after call taken
after_refuse c r b k q = ap (λ o. or_same r (taken r b.task o)) q

pub after_accept :
    (c : Context) (r : Run) (b : Call) (e : Effect) → decide c r b ≡ accept e → after c r b ≡ apply b.task e r
unfolding after call taken
after_accept c r b e q = ap (λ o. or_same r (taken r b.task o)) q

-- what a start and an end do
module _ (c : Context) (r : Run) (n : ℕ) (e : Effect) where
  pub start_effect :
      Accepts c r (record { action = start; task = n }) e → own (start_weight c) (in_state 2 (task_of r n)) ≡ e
  start_effect h =
      (subst (λ p. Settled r n p e) (start_plan c n (task_of r n) (settled_ready c r n (task_of r n) e start h.settled)) h.settled).1

  pub end_effect : Accepts c r (record { action = end; task = n }) e → leaving (end_weight c) (task_of r n) ≡ e
  end_effect h =
      (subst (λ p. Settled r n p e) (end_plan c n (task_of r n) (settled_ready c r n (task_of r n) e end h.settled)) h.settled).1

-- What an accepted call of b's task leaves as it was in r, in the run r' after it.
pub record Unchanged (r r' : Run) (b : Call) : Type 0 where
  -- the task's own body and modes
  pub body : (task_of r' b.task).body ≡ (task_of r b.task).body
  pub modes : (task_of r' b.task).modes ≡ (task_of r b.task).modes
  -- every other task that was made before
  pub others : (k : ℕ) → k ≢ b.task → ((task_of r k).state ≡ 0 → ⊥) → task_of r' k ≡ task_of r k
  -- every location at which the task's mode is neither write nor sum
  pub memory :
      (a : ℕ) → (mode_of (task_of r b.task) a ≡ 2 → ⊥) → (mode_of (task_of r b.task) a ≡ 3 → ⊥)
      → get_or r'.memory a 0 ≡ get_or r.memory a 0

pub unchanged :
    (c : Context) → Accepted c.list → (r : Run) → Valid c r → (b : Call) (e : Effect) → Accepts c r b e
    → Unchanged r (apply b.task e r) b
unfolding apply
unchanged c ok r v b e h =
    record {
      body = ap (λ t. t.body) own_record ∙ (accepted_fair c ok r v b e h).body;
      modes = ap (λ t. t.modes) own_record ∙ (accepted_fair c ok r v b e h).modes;
      others = λ k ne s. task_other b.task e r k (absent k ne s);
      memory = stored;
    }
  where
    own_record : task_of (apply b.task e r) b.task ≡ charged e.weight e.task
    own_record = self_record c ok r v b e h b.task refl

    absent : (k : ℕ) → k ≢ b.task → ((task_of r k).state ≡ 0 → ⊥) → In k (touched b.task e) → ⊥
    absent k ne s (inl q) = ne q
    absent k ne s (inr i) =
        let x = numbers_in k e.made i in
        let blank = v.blank b.task x.0.number h.present (made_is_future c ok r v b e h x.0 x.1) in
        s (ap (λ t. t.state) (ap (task_of r) x.2 ∙ blank) ∙ never_state)

    elsewhere :
        (E : Edit) → Backed r b.task E → (a : ℕ) → (mode_of (task_of r b.task) a ≡ 2 → ⊥)
        → (mode_of (task_of r b.task) a ≡ 3 → ⊥) → get_or (edited E r.memory) a 0 ≡ get_or r.memory a 0
    elsewhere keep k a m s = unfold edited in refl
    elsewhere (put l w) k a m s =
        unfold edited in
        get_or-set_other r.memory l a w 0
        (λ q. m (ap (mode_of (task_of r b.task)) q ∙ only_writers (mode_of (task_of r b.task) l) k.1))
    elsewhere (add l w) k a m s =
        unfold edited in
        get_or-set_other r.memory l a _ 0 (λ q. sort q (only_summers (mode_of (task_of r b.task) l) k.1))
      where
        sort : a ≡ l → (mode_of (task_of r b.task) l ≡ 2) ⊎ (mode_of (task_of r b.task) l ≡ 3) → ⊥
        sort q (inl x) = m (ap (mode_of (task_of r b.task)) q ∙ x)
        sort q (inr x) = s (ap (mode_of (task_of r b.task)) q ∙ x)

    stored :
        (a : ℕ) → (mode_of (task_of r b.task) a ≡ 2 → ⊥) → (mode_of (task_of r b.task) a ≡ 3 → ⊥)
        → get_or (apply b.task e r).memory a 0 ≡ get_or r.memory a 0
    stored a m s = elsewhere e.edit (backed c ok r v b e h) a m s
