-- What a step that makes no task comes to, by the task's own record. Assumes nothing.
use Rattle.std.proofs.Common.{Result, Ok, Err, ◌≡◌, ℕ, suc, ◌+◌, ◌%◌, ◌^◌, ◌≤◌, ◌<◌, Bool, true, false, List, [], length, take, set, sym, refl, ap, ◌∙◌, subst, arith, length-set, length-take}
use Rattle.std.proofs.lemmas.Bool.{false≢true}
use lib.Seq.{get_or-take, set_out, take-set-lt, take-set-le}
use Rattle.tasklist.specs.TaskList.{footprint_of}
use Rattle.tasklist.specs.Tables.{list_of}
use Rattle.semantics.specs.declared.Record.{Record}
use Rattle.semantics.specs.declared.Fault.{Fault}
use Rattle.semantics.specs.Run.{Task, task_of}
use Rattle.semantics.specs.Effect.{Edit, keep, put, add, Effect, moved, faulted, assigned}
use Rattle.semantics.specs.Access.{every}
use Rattle.semantics.specs.Footprint.{Children, none_made, all_made, children, first_register}
use Rattle.semantics.specs.Plan.{step, plan_make}
use Rattle.tables.specs.Children.{seen_from}
use Rattle.semantics.specs.Call.{Outcome, refuse, accept, admit, settle, edited, stays, places, changes, apply}
use Rattle.semantics.specs.Answers.{fault_number, task_from}
use Rattle.semantics.specs.Sequential.{made_by}
use Rattle.arrays.specs.Rows.{row}
use Rattle.records.specs.Records.{passed, failed, holding}
use Rattle.plans.specs.declared.Stop.{Stop}
use Rattle.plans.specs.declared.Stop.TheVariants as Stops
use Rattle.plans.specs.declared.StepPlan.{StepPlan}
use Rattle.plans.specs.declared.StepPlan.TheVariants as Planned
use Rattle.plans.specs.View.{Parts, model, context_of, SoundRun, record_of}
use Rattle.plans.specs.Calls.{decided}
use Rattle.plans.specs.Steps.{planned}
use Rattle.looks.specs.Looks.{with_parts}
use Rattle.changes.specs.Changes.{WholeRun, counted}
use Rattle.steps.specs.Stepping.{StepsTo, StepOf}
use Rattle.plans.proofs.ViewLaws.{same_run}
use Rattle.plans.proofs.DecideLaws.{list_accepted, own_task}
use Rattle.changes.proofs.CallLaws.{applied, called_taken, own_effect, applied_model, applied_whole, splice_self}

-- the locations of a list, edited
take_set : (n : ℕ) (l : List ℕ) (i a : ℕ) → take n (set l i a) ≡ set (take n l) i a
take_set n l i a = grind (arith, take-set-lt, take-set-le, set_out, length-take)

take_edited : (n : ℕ) (x : Edit) (l : List ℕ) → take n (edited x l) ≡ edited x (take n l)
unfolding edited
take_edited n keep l = grind arith
take_edited n (put a v) l = grind (arith, take_set)
take_edited n (add a v) l = grind (arith, take_set, get_or-take, set_out, length-take, take-set-le)

edited_length : (x : Edit) (l : List ℕ) → length (edited x l) ≡ length l
unfolding edited
edited_length x l = grind (arith, length-set)

small_more : (a b : ℕ) → a ≤ 32 → b ≤ 256 → (a + b) % 2 ^ 32 ≡ a + b
small_more a b h k = omega arith

-- one step on, with an edit of the memory
abbrev pub edit_effect : ℕ → Edit → Task → Effect
edit_effect w x t = record { task = moved 1 t.registers t; edit = x; made = []; leaves = false; weight = w }

-- A task with this record, one step on.
module _ (run : Parts) (n : ℕ) (below : n < 128) (own : Record) (same : record_of run n ≡ own) where
  pub own_as : SoundRun run → task_of (model run) n ≡ task_from own (row n run.modes)
  own_as s = own_task run s n below ∙ ap (λ t. task_from t (row n run.modes)) same

  one_step : SoundRun run → (own.steps + 1) % 2 ^ 32 ≡ suc own.steps
  one_step s =
      let few : own.steps ≤ 32 = subst (λ (t : Task). t.steps ≤ 32) (own_as s) (s.sound.tasks n).steps in
      small_more own.steps 1 few (omega arith) ∙ omega arith

  pc_on : SoundRun run → (k : ℕ) → k < 256 → (own.pc + (1 + k)) % 2 ^ 32 ≡ own.pc + (1 + k)
  pc_on s k h =
      let most = (list_accepted run s).most_instructions (task_of (model run) n).body in
      let few : own.pc ≤ 32 = omega (arith, (s.sound.tasks n).pc, most, ap (λ t. t.pc) (own_as s)) in
      small_more own.pc (1 + k) few (omega arith)

  pub failed_task : SoundRun run → (k : ℕ) → faulted k (task_of (model run) n) ≡ task_from (failed k own) (row n run.modes)
  failed_task s k = rw (own_as s, one_step s) refl

  passed_task :
      SoundRun run → (k : ℕ) → k < 256
      → moved (1 + k) (task_of (model run) n).registers (task_of (model run) n) ≡ task_from (passed k own) (row n run.modes)
  passed_task s k h = rw (own_as s, one_step s, pc_on s k h) refl

  assigned_task :
      SoundRun run → (a v : ℕ) → assigned a v (task_of (model run) n) ≡ task_from (holding a v (passed 0 own)) (row n run.modes)
  assigned_task s a v = rw (own_as s, one_step s, pc_on s 0 (omega arith)) refl

  module _ (w : ℕ) (light : w < 2 ^ 24) where
    -- one call on, with another record of the task
    abbrev pub onward : Record → Parts
    onward t = applied n t run.order run.left w run

    onward_model :
        SoundRun run → (t : Record) → t.weight ≡ own.weight
        → model (onward t) ≡ apply n (own_effect (task_from t (row n run.modes)) false w) (model run)
    unfolding places stays
    onward_model s t q =
        applied_model run s n below t run.order run.left w false (q ∙ ap (λ (x : Record). x.weight) (sym same)) light
        (sym (splice_self n (take run.left run.order)))

    pub onward_whole : SoundRun run → (t : Record) → t.weight ≡ own.weight → WholeRun (onward t)
    unfolding places stays
    onward_whole s t q =
        applied_whole run s n below t run.order run.left w false (q ∙ ap (λ (x : Record). x.weight) (sym same)) light
        (sym (splice_self n (take run.left run.order))) s.order s.left

    -- a step that changes the task's own record alone
    pub own_step :
        (t : Record) → t.weight ≡ own.weight
        → (SoundRun run → decided run step n ≡ accept (own_effect (task_from t (row n run.modes)) false w))
        → StepOf n run run (counted t w)
    unfolding applied
    own_step t q d = (
      called_taken step run n (own_effect (task_from t (row n run.modes)) false w) (onward t) refl refl d
          (λ s. (onward_model s t q, onward_whole s t q)),
      λ s. ap made_by (d s),
    )

    module _ (place : ℕ) where
      pub fault_step : (k : Fault) → StepsTo n run place w (Err (Stops.Fault k)) → StepOf n run run (counted (failed (fault_number k) own) w)
      unfolding planned
      fault_step k b =
          own_step (failed (fault_number k) own) refl
          (λ s. (b s).1 ∙ ap (λ t. accept (own_effect t false w)) (failed_task s (fault_number k)))

      pub assign_step :
          (a v : ℕ) → StepsTo n run place w (Ok (Planned.Assign a v)) → StepOf n run run (counted (holding a v (passed 0 own)) w)
      unfolding planned
      assign_step a v b =
          own_step (holding a v (passed 0 own)) refl (λ s. (b s).1 ∙ ap (λ t. accept (own_effect t false w)) (assigned_task s a v))

      pub pass_step : (k : ℕ) → k < 256 → StepsTo n run place w (Ok (Planned.Pass k)) → StepOf n run run (counted (passed k own) w)
      unfolding planned
      pass_step k h b =
          own_step (passed k own) refl (λ s. (b s).1 ∙ ap (λ t. accept (own_effect t false w)) (passed_task s k h))

    -- the task one step on
    abbrev pub step_task : Task
    step_task = moved 1 (task_of (model run) n).registers (task_of (model run) n)

    pub stepped_model : SoundRun run → model (onward (passed 0 own)) ≡ apply n (own_effect step_task false w) (model run)
    stepped_model s =
        onward_model s (passed 0 own) refl
        ∙ ap (λ t. apply n (own_effect t false w) (model run)) (sym (passed_task s 0 (omega arith)))

    -- a step that edits the memory: a store, a sum
    pub edit_step :
        (x : Edit) → (SoundRun run → decided run step n ≡ accept (edit_effect w x (task_of (model run) n)))
        → StepOf n run (with_parts run.tables (edited x run.memory) run.modes run.order run.left run) (counted (passed 0 own) w)
    unfolding model applied apply changes places
    edit_step x d = (
      called_taken step run n (edit_effect w x (task_of (model run) n)) next refl refl d (λ s. (same_model s, whole s)),
      λ s. ap made_by (d s),
    )
      where
        next : Parts
        next = record (onward (passed 0 own)) { memory = edited x run.memory }

        same_model : SoundRun run → model next ≡ apply n (edit_effect w x (task_of (model run) n)) (model run)
        same_model s =
            let stepped = stepped_model s in
            same_run (model next) (apply n (edit_effect w x (task_of (model run) n)) (model run))
            (take_edited run.tables.locations x run.memory)
            (ap (λ m. m.tasks) stepped) (ap (λ m. m.order) stepped) (ap (λ m. m.calls) stepped) (ap (λ m. m.weight) stepped)

        whole : SoundRun run → WholeRun next
        whole s =
            let h = onward_whole s (passed 0 own) refl in
            record {
              memory = edited_length x run.memory ∙ h.memory;
              records = h.records;
              modes = h.modes;
              order = h.order;
              left = h.left;
            }

-- a plan that is held back: it is refused
abbrev pub holds_back : Result StepPlan Stop → Bool
holds_back (Err (Stops.Held k)) = true
holds_back (Err (Stops.Fault k)) = false
holds_back (Ok p) = false

-- Each other plan is accepted, with this effect.
module _ (run : Parts) (n w : ℕ) where
  abbrev effect_in : Outcome → Effect
  effect_in (refuse k) = own_effect (task_of (model run) n) false w
  effect_in (accept e) = e

  abbrev pub plan_effect : Result StepPlan Stop → Effect
  plan_effect p = effect_in (planned run n w p)

  pub accepted_plan : (p : Result StepPlan Stop) → holds_back p ≡ false → planned run n w p ≡ accept (plan_effect p)
  unfolding planned
  accepted_plan (Err (Stops.Held k)) h = absurd (false≢true (sym h))
  accepted_plan (Err (Stops.Fault k)) h = refl
  accepted_plan (Ok (Planned.Assign a v)) h = refl
  accepted_plan (Ok (Planned.Pass k)) h = refl
  accepted_plan (Ok (Planned.Store a v)) h = refl
  accepted_plan (Ok (Planned.Sum a v)) h = refl
  accepted_plan (Ok (Planned.Make s)) h =
      sort (children s.body (footprint_of (list_of run.tables) s.footprint) (seen_from 0 s.children (first_register s.first (task_of (model run) n))))
    where
      sort :
          (made : Children)
          → settle (model run) n (plan_make (context_of run) w n (task_of (model run) n) s.body made)
          ≡ accept (effect_in (settle (model run) n (plan_make (context_of run) w n (task_of (model run) n) s.body made)))
      sort (none_made j) = unfold plan_make settle admit every in refl
      sort (all_made ts) = unfold plan_make settle admit every in refl
