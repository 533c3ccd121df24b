-- Every accepted call leaves a sound run sound. Assumes nothing.
use Prim.Native.Nat.{ℕ, suc, ◌+◌, ◌*◌, ◌^◌, ◌<◌, ◌≤◌}
use mathlib.Core.Path.{◌≡◌, refl, sym, ap, subst, ◌∙◌}
use mathlib.Core.List.{List, [], ◌∷◌}
use mathlib.Core.Bool.{Bool, true, false, false≢true}
use mathlib.Core.Option.{Option, none, some}
use mathlib.Core.Logic.{◌⊎◌, inl, inr, ◌≢◌}
use native.Mathlib.Omega.{arith}
use native.Mathlib.Decide.{ℕ_discrete}
use lib.ListN.{length, get_or, set, length-set}
use Rattle.tasklist.specs.TaskList.{total}
use Rattle.tasklist.specs.Accepted.{Accepted}
use Rattle.semantics.specs.Run.{Task, Run, Context, never, task_of, weight_of}
use Rattle.semantics.specs.Effect.{Edit, keep, put, add, Numbered, Effect, Plan, stop, go, fetch}
use Rattle.semantics.specs.Plan.{plan}
use Rattle.semantics.specs.Call.{Call, among, sum_of, edited, written, stays, places, charged, changes, apply, call, or_same, after, after_all}
use Rattle.semantics.specs.Sound.{In, TaskSound, rank, weighs, Weighty, Sound}
use Rattle.semantics.proofs.Order.{in_left, in_right, among_in, in_among, splice_keep, splice_new}
use Rattle.semantics.proofs.Modes.{getD_set_cases}
use Rattle.semantics.proofs.Apply.{numbers, touched, in_numbers, numbers_in, length_written, written_other, task_other}
use Rattle.semantics.proofs.Decide.{Settled, Accepts, call_accept}
use Rattle.semantics.proofs.Valid.{made_absent, made_is_future, made_below, made_record, touched_distinct}
use Rattle.semantics.proofs.Kept.{self_record, valid_kept}
use Rattle.semantics.proofs.SoundPlan.{SmallEdit, EffectSound, PlanSound, plan_sound}
use Rattle.semantics.proofs.Ranks.{total_set, never_rank, never_weighs, total_made}

-- Whose record a number names after a call of n.
pub data Whose (n : ℕ) (e : Effect) (k : ℕ) : Type 0 where
  self : k ≡ n → Whose n e k
  new : (x : Numbered) → In x e.made → k ≡ x.number → Whose n e k
  same : (In k (touched n e) → ⊥) → Whose n e k

pub whose : (n : ℕ) (e : Effect) (k : ℕ) → Whose n e k
whose n e k = sort (ℕ_discrete k n) (among k (numbers e.made)) refl
  where
    neither : k ≢ n → among k (numbers e.made) ≡ false → In k (touched n e) → ⊥
    neither q a (inl p) = q p
    neither q a (inr i) = false≢true (sym a ∙ in_among k (numbers e.made) i)

    sort : Dec (k ≡ n) → (b : Bool) → among k (numbers e.made) ≡ b → Whose n e k
    sort (yes q) b a = self q
    sort (no q) true a =
        let x = numbers_in k e.made (among_in k (numbers e.made) a) in new x.0 x.1 x.2
    sort (no q) false a = same (neither q a)

charged_sound : (c : Context) (w : ℕ) (t : Task) → TaskSound c t → (t.state ≡ 0 → ⊥) → TaskSound c (charged w t)
charged_sound c w t h q =
    record {
      state = h.state;
      body = h.body;
      pc = h.pc;
      registers = h.registers;
      modes = h.modes;
      steps = h.steps;
      early = h.early;
      fault = h.fault;
      blank = λ x. absurd (q x);
    }

pub edited_length : (E : Edit) (m : List ℕ) → length (edited E m) ≡ length m
unfolding edited
edited_length keep m = refl
edited_length (put a v) m = length-set m a v
edited_length (add a v) m = length-set m a _

-- "modulo 2^32"
sum_small : (x v : ℕ) → sum_of x v < 2 ^ 32
sum_small x v = omega arith

set_small :
    (m : List ℕ) (b v : ℕ) → v < 2 ^ 32 → ((a : ℕ) → get_or m a 0 < 2 ^ 32) → (a : ℕ) → get_or (set m b v) a 0 < 2 ^ 32
set_small m b v s h a = sort (getD_set_cases m b v a 0)
  where
    sort : (get_or (set m b v) a 0 ≡ get_or m a 0) ⊎ ((a ≡ b) × (get_or (set m b v) a 0 ≡ v)) → get_or (set m b v) a 0 < 2 ^ 32
    sort (inl q) = subst (λ x. x < 2 ^ 32) (sym q) (h a)
    sort (inr q) = subst (λ x. x < 2 ^ 32) (sym q.1) s

edited_small :
    (E : Edit) (m : List ℕ) → SmallEdit E → ((a : ℕ) → get_or m a 0 < 2 ^ 32) → (a : ℕ) → get_or (edited E m) a 0 < 2 ^ 32
unfolding edited
edited_small keep m s h a = h a
edited_small (put b v) m s h a = set_small m b v s h a
edited_small (add b v) m s h a = set_small m b (sum_of (get_or m b 0) v) (sum_small (get_or m b 0) v) h a

module _ (c : Context) (ok : Accepted c.list) (most : ℕ) (light : (place : ℕ) → 16 * weight_of c place ≤ most) where
  module _ (r : Run) (s : Sound c most r) (b : Call) (e : Effect) (h : Accepts c r b e) where
    pub effect_sound : EffectSound c most (task_of r b.task) e
    effect_sound =
        sort (plan c b.action b.task (task_of r b.task))
        (plan_sound c ok most light b.task (task_of r b.task) (s.tasks b.task) b.action)
        h.settled
      where
        sort :
            (p : Plan) → PlanSound c most (task_of r b.task) p → Settled r b.task p e
            → EffectSound c most (task_of r b.task) e
        sort (stop k) q a = absurd a
        sort (go gs d) q a = subst (EffectSound c most (task_of r b.task)) a.1 q
        sort (fetch l f) q a = subst (EffectSound c most (task_of r b.task)) a.1 (q (get_or r.memory l 0) (s.small l))

    pub self_is : (k : ℕ) → k ≡ b.task → task_of (apply b.task e r) k ≡ charged e.weight e.task
    self_is = self_record c ok r s.valid b e h

    pub new_is : (k : ℕ) (x : Numbered) → In x e.made → k ≡ x.number → task_of (apply b.task e r) k ≡ x.task
    new_is k x i q = ap (task_of (apply b.task e r)) q ∙ made_record c ok r s.valid b e h x i

    pub same_is : (k : ℕ) → (In k (touched b.task e) → ⊥) → task_of (apply b.task e r) k ≡ task_of r k
    same_is k q = task_other b.task e r k q

    keeps_tasks : (k : ℕ) → Whose b.task e k → TaskSound c (task_of (apply b.task e r) k)
    keeps_tasks k (self q) =
        subst (TaskSound c) (sym (self_is k q)) (charged_sound c e.weight e.task effect_sound.task effect_sound.alive)
    keeps_tasks k (new x i q) = subst (TaskSound c) (sym (new_is k x i q)) (effect_sound.made x i).task
    keeps_tasks k (same q) = subst (TaskSound c) (sym (same_is k q)) (s.tasks k)

    keeps_weights : (k : ℕ) → Whose b.task e k → (task_of (apply b.task e r) k).weight ≤ most * suc r.calls
    keeps_weights k (self q) =
        let a = ap (λ t. t.weight) (self_is k q) in
        let p = effect_sound.paid in
        let w = effect_sound.weight.0 in
        let o = s.weights b.task in
        omega arith
    keeps_weights k (new x i q) =
        let a = ap (λ t. t.weight) (new_is k x i q) in
        let p = (effect_sound.made x i).unpaid in
        omega arith
    keeps_weights k (same q) =
        let a = ap (λ t. t.weight) (same_is k q) in
        let o = s.weights k in
        omega arith

    in_place : (k : ℕ) → In k (places b.task e) → In k (apply b.task e r).order
    unfolding apply
    in_place k i = splice_new k b.task (places b.task e) r.order h.present i

    keeps_unended :
        (k : ℕ) → Whose b.task e k
        → ((task_of (apply b.task e r) k).state ≡ 1) ⊎ ((task_of (apply b.task e r) k).state ≡ 2)
        → In k (apply b.task e r).order
    keeps_unended k (self q) a = look e.leaves refl
      where
        not_ended :
            ((task_of (apply b.task e r) k).state ≡ 1) ⊎ ((task_of (apply b.task e r) k).state ≡ 2)
            → (task_of (apply b.task e r) k).state ≡ 3 → ⊥
        not_ended (inl p) z = omega arith
        not_ended (inr p) z = omega arith

        look : (l : Bool) → e.leaves ≡ l → In k (apply b.task e r).order
        look true l = absurd (not_ended a (ap (λ t. t.state) (self_is k q) ∙ effect_sound.left l))
        look false l =
            in_place k
            (unfold places stays in
            in_right k (numbers e.made) (stays e.leaves b.task) (subst (λ x. In k (stays x b.task)) (sym l) (inl q)))
    keeps_unended k (new x i q) a =
        in_place k
        (unfold places in
        in_left k (numbers e.made) (stays e.leaves b.task) (subst (λ z. In z (numbers e.made)) (sym q) (in_numbers x e.made i)))
    keeps_unended k (same q) a =
        unfold apply in
        splice_keep k b.task (places b.task e) r.order
        (s.unended k (subst (λ t. (t.state ≡ 1) ⊎ (t.state ≡ 2)) (same_is k q) a))
        (λ p. q (inl p))

    -- the sum of a number of each task: the task's own rises by d, a new task has 0
    total_kept :
        (f : Task → ℕ) (d : ℕ) → f never ≡ 0 → ((x : Numbered) → In x e.made → f x.task ≡ 0)
        → f (charged e.weight e.task) ≡ f (task_of r b.task) + d
        → total f (apply b.task e r).tasks ≡ total f r.tasks + d
    total_kept f d blank unborn rise = sum_up
      where
        size : b.task < length (written e.made r.tasks)
        size = subst (λ k. b.task < k) (sym (length_written e.made r.tasks ∙ s.valid.size)) h.below

        was : f (get_or (written e.made r.tasks) b.task never) ≡ f (task_of r b.task)
        was = ap f (written_other e.made r.tasks b.task (made_absent c ok r s.valid b e h b.task h.present))

        made : total f (written e.made r.tasks) ≡ total f r.tasks
        made =
            total_made f blank e.made r.tasks (touched_distinct c ok r s.valid b e h).1
            (λ x i. (
              subst (λ k. x.number < k) (sym s.valid.size) (made_below c ok r s.valid b e h x i),
              s.valid.blank b.task x.number h.present (made_is_future c ok r s.valid b e h x i),
              unborn x i,
            ))

        own : Task
        own = charged e.weight e.task

        sum :
            total f (set (written e.made r.tasks) b.task own) + f (get_or (written e.made r.tasks) b.task never)
            ≡ total f (written e.made r.tasks) + f own
        sum = total_set f (written e.made r.tasks) b.task own never size

        sum_up : total f (apply b.task e r).tasks ≡ total f r.tasks + d
        sum_up = unfold apply changes written in omega (arith, sum, made, was, rise)

    higher : rank (charged e.weight e.task) ≡ suc (rank (task_of r b.task))
    higher = unfold rank in effect_sound.ranked

    keeps_ranks : total rank (apply b.task e r).tasks ≡ suc r.calls
    keeps_ranks =
        let sum = total_kept rank 1 never_rank (λ x i. (effect_sound.made x i).unranked) (omega (arith, higher)) in
        omega (arith, sum, s.ranks)

    keeps_weighed : total weighs (apply b.task e r).tasks ≡ r.weight + e.weight
    keeps_weighed =
        let sum =
        total_kept weighs e.weight never_weighs (λ x i. (effect_sound.made x i).unpaid) (omega (arith, effect_sound.paid)) in
        omega (arith, sum, s.weighed)

    keeps_earned :
        Weighty c → (k : ℕ) → Whose b.task e k
        → rank (task_of (apply b.task e r) k) ≤ (task_of (apply b.task e r) k).weight
    keeps_earned heavy k (self q) =
        subst (λ t. rank t ≤ t.weight) (sym (self_is k q))
        (omega (arith, higher, effect_sound.paid, effect_sound.weight.1 heavy, s.earned heavy b.task))
    keeps_earned heavy k (new x i q) =
        subst (λ t. rank t ≤ t.weight) (sym (new_is k x i q)) (omega (arith, (effect_sound.made x i).unranked))
    keeps_earned heavy k (same q) = subst (λ t. rank t ≤ t.weight) (sym (same_is k q)) (s.earned heavy k)

    pub sound_kept : Sound c most (apply b.task e r)
    unfolding apply
    sound_kept =
        record {
          valid = valid_kept c ok r s.valid b e h;
          tasks = λ k. keeps_tasks k (whose b.task e k);
          unended = λ k a. keeps_unended k (whose b.task e k) a;
          locations = edited_length e.edit r.memory ∙ s.locations;
          small = edited_small e.edit r.memory effect_sound.edit s.small;
          ranks = keeps_ranks;
          weight = let w = effect_sound.weight.0 in let o = s.weight in omega arith;
          weights = λ k. keeps_weights k (whose b.task e k);
          weighed = keeps_weighed;
          earned = λ heavy k. keeps_earned heavy k (whose b.task e k);
        }

  pub sound_call : (r r' : Run) (b : Call) → Sound c most r → call c r b ≡ some r' → Sound c most r'
  sound_call r r' b s q = let h = call_accept c r b r' q in subst (Sound c most) h.2 (sound_kept r s b h.0 h.1)

  pub sound_after : (r : Run) (b : Call) → Sound c most r → Sound c most (after c r b)
  unfolding after
  sound_after r b s = look (call c r b) refl
    where
      look : (o : Option Run) → call c r b ≡ o → Sound c most (or_same r o)
      look none q = s
      look (some r') q = sound_call r r' b s q

  pub sound_after_all : (bs : List Call) (r : Run) → Sound c most r → Sound c most (after_all c r bs)
  unfolding after_all
  sound_after_all [] r s = s
  sound_after_all (b ∷ bs) r s = sound_after_all bs (after c r b) (sound_after r b s)
