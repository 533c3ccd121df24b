-- What a look says of a task's next call: it is the call of the record's kind, and it would be accepted where the look finds the
-- task's place and its instruction doesn't wait. Assumes nothing.
use Prim.Native.Nat.{ℕ, ◌+◌, ◌*◌, ◌<◌}
use mathlib.Core.Path.{◌≡◌, refl, sym, ap, subst, ◌∙◌}
use mathlib.Core.List.{[], ◌∷◌}
use mathlib.Core.Bool.{Bool, true, false, cond}
use lib.ListN.{get_or}
use native.Mathlib.Omega.{arith}
use mathlib.Core.Bool.{false≢true}
use Rattle.tasklist.specs.declared.Instruction.{Instruction}
use Rattle.tasklist.specs.Encode.{instruction_fields}
use Rattle.tasklist.specs.TaskList.{instruction_of}
use Rattle.tasklist.specs.Tables.{list_of}
use Rattle.runtime.specs.declared.Run.{Run}
use Rattle.runtime.specs.View.{parts_of}
use Rattle.runtime.specs.Parts as Runs
use Rattle.arrays.specs.declared.order.Order.{Order}
use Rattle.semantics.specs.declared.Record.{Record}
use Rattle.semantics.specs.declared.CallRefusal.{CallRefusal}
use Rattle.semantics.specs.Run.{weight_of}
use Rattle.semantics.specs.Call.{decide}
use Rattle.semantics.specs.Effect.{Effect}
use Rattle.semantics.specs.Plan.{step, units}
use Rattle.semantics.specs.Turns.{next_call}
use Rattle.model_rounds.specs.Rounds.{is_accepted, ready}
use Rattle.plans.specs.declared.StepPlan.{StepPlan}
use Rattle.plans.specs.declared.Stop.{Stop}
use Rattle.plans.specs.declared.Stop.TheVariants as Stops
use Rattle.plans.specs.View.{Parts, model, context_of, SoundRun, record_of}
use Rattle.plans.specs.Calls.{call_of, decided}
use Rattle.plans.specs.Steps.{planned, PlansIn}
use Rattle.plans.proofs.StepLaws.{step_settled}
use Rattle.looks.specs.Looks.{finished, BodySize, PlannedAs, StartIn, EndIn, ReadyIn, start_effect, end_effect}
use Rattle.looks.proofs.LookLaws.{ends}
use Rattle.steps.proofs.CarryLaws.{holds_back, accepted_plan}
use Rattle.turns.specs.declared.Kind.{Kind}
use Rattle.turns.specs.declared.Kind.TheVariants.{Start, Step, End}
use Rattle.turns.specs.Moves.{next_kind, kind_action}
use Rattle.turns.proofs.MoveLaws.{kind_next, kind_calls}
use Rattle.std.specs.Prelude.{Some, None, Result, Ok, Err}
use Rattle.std.specs.Option.{option_map}
use Rattle.std.specs.Result.{result_ok}
use borrow.Author.Tests.{le-ltb}
use Rattle.run_rounds.specs.Looking.{waits, SeenAs}

-- a number above 127 makes no call
pub beyond_seen : (run : Parts) (n : ℕ) → 127 < n → SeenAs run n None
unfolding ready next_call decide is_accepted
beyond_seen run n h = λ s. rw (le-ltb n 128 (omega arith)) refl

-- what waits is held back
waits_is : (p : Result StepPlan Stop) → holds_back p ≡ waits p
waits_is (Err (Stops.Held k)) = refl
waits_is (Err (Stops.Fault k)) = refl
waits_is (Ok p) = refl

refused_plan : (run : Parts) (n w : ℕ) (p : Result StepPlan Stop) → waits p ≡ true → is_accepted (planned run n w p) ≡ false
unfolding is_accepted planned
refused_plan run n w (Err (Stops.Held k)) h = refl
refused_plan run n w (Err (Stops.Fault k)) h = absurd (false≢true h)
refused_plan run n w (Ok p) h = absurd (false≢true h)

-- A task of a run, with its own record, the size of its body and the kind of its next call.
module _ (run : Parts) (n : ℕ) (below : n < 128) (size : ℕ) (own : Record) (same : record_of run n ≡ own) (fits : BodySize size own run)
    (kind : Kind) (is : kind ≡ next_kind size own)
  where
    next_is : SoundRun run → next_call (context_of run) (model run) n ≡ call_of (kind_action kind) n
    unfolding next_call
    next_is s = ap (λ a. call_of a n) (kind_next run n below size own same fits s ∙ ap kind_action (sym is))

    ready_is : (b : Bool) → (SoundRun run → is_accepted (decided run (kind_action kind) n) ≡ b) → SoundRun run
        → ready (context_of run) (model run) n ≡ b
    unfolding ready next_call
    ready_is b h s = ap (λ a. is_accepted (decided run a n)) (kind_next run n below size own same fits s ∙ ap kind_action (sym is)) ∙ h s

    pub sees_held : (SoundRun run → is_accepted (decided run (kind_action kind) n) ≡ false) → SeenAs run n None
    sees_held h = ready_is false h

    pub sees_ready : (SoundRun run → is_accepted (decided run (kind_action kind) n) ≡ true) → SeenAs run n (Some kind)
    sees_ready h s = (
      kind_calls kind n ∙ ap (λ b. b ∷ []) (sym (next_is s)),
      ready_is true h s,
    )

    -- a look that says what comes of this call
    pub sees_planned :
        (e : Effect) (found : Result ℕ CallRefusal) → PlannedAs (kind_action kind) e run n found
        → SeenAs run n (option_map (λ _. kind) (result_ok found))
    unfolding is_accepted
    sees_planned e (Err k) h = sees_held (λ s. ap is_accepted (h s))
    sees_planned e (Ok place) h = sees_ready (λ s. ap is_accepted (h.1 s).1)

-- the place that a look finds
pub ready_at :
    (order : Order) (own : Record) (size n : ℕ) (found : Result ℕ CallRefusal) → ReadyIn order own size n found → (place : ℕ)
    → Some place ≡ result_ok found → ReadyIn order own size n (Ok place)
ready_at order own size n (Ok at) h place q = let same : place ≡ at = cc in rw same h
ready_at order own size n (Err k) h place q = cc

-- what the look at a task's next call finds
module _ (run : Run) (n : ℕ) (below : n < 128) (own : Record) (same : Runs.record_of run n ≡ own) (size : ℕ)
    (fits : BodySize size own (parts_of run)) (kind : Kind) (is : kind ≡ next_kind size own)
  where
    pub start_seen :
        kind ≡ Start → (found : Result ℕ CallRefusal) → StartIn run.order run.modes own n found
        → SeenAs (parts_of run) n (option_map (λ _. kind) (result_ok found))
    start_seen q found h =
        sees_planned (parts_of run) n below size own same fits kind is (start_effect (parts_of run) n) found
        (subst (λ a. PlannedAs a (start_effect (parts_of run) n) (parts_of run) n found) (sym (ap kind_action q)) (h (parts_of run) same))

    pub end_seen :
        kind ≡ End → (found : Result ℕ CallRefusal) → EndIn run.order own size n found
        → SeenAs (parts_of run) n (option_map (λ _. kind) (result_ok found))
    end_seen q found h =
        sees_planned (parts_of run) n below size own same fits kind is (end_effect (parts_of run) n) found
        (subst (λ a. PlannedAs a (end_effect (parts_of run) n) (parts_of run) n found) (sym (ap kind_action q)) (h (parts_of run) same fits))

    -- a step, of a task that is not at its end
    module _ (stepping : kind ≡ Step) where
      is_step : kind_action kind ≡ step
      is_step = ap kind_action stepping

      pub refused_seen : (found : Result ℕ CallRefusal) → ReadyIn run.order own size n found → None ≡ result_ok found → SeenAs (parts_of run) n None
      unfolding is_accepted
      refused_seen (Err k) h q =
          sees_held (parts_of run) n below size own same fits kind is
          (λ s. ap (λ a. is_accepted (decided (parts_of run) a n)) is_step ∙ ap is_accepted (h (parts_of run) same fits s))
      refused_seen (Ok place) h q = cc

      module _
          (place : ℕ) (found : ReadyIn run.order own size n (Ok place)) (i : Instruction)
          (at : i ≡ instruction_of (list_of run.tables) own.body own.pc) (p : Result StepPlan Stop)
          (plans : PlansIn run.order.places run.modes run.memory own.registers n place i p)
        where
          -- what the step comes to
          step_comes : SoundRun (parts_of run) → (w : ℕ) × (decided (parts_of run) step n ≡ planned (parts_of run) n w p)
          step_comes s = (
            units i * weight_of (context_of (parts_of run)) (get_or (instruction_fields i) 0 0 + 2),
            step_settled (parts_of run) n below s place (found.3 (parts_of run) s) (ap (λ (t : Record). t.state) same ∙ found.1)
                (finished size own) (ends (parts_of run) n size own below same fits s) found.2 i (get_or (instruction_fields i) 0 0) (units i)
                (at ∙ sym (ap (λ (t : Record). instruction_of (list_of run.tables) t.body t.pc) same))
                refl refl p (plans (parts_of run) refl (ap (λ (t : Record). t.registers) same)),
          )

          pub step_seen : (b : Bool) → waits p ≡ b → SeenAs (parts_of run) n (cond b None (Some kind))
          unfolding is_accepted
          step_seen true q =
              sees_held (parts_of run) n below size own same fits kind is
              (λ s.
              let h = step_comes s in
              ap (λ a. is_accepted (decided (parts_of run) a n)) is_step ∙ ap is_accepted h.1 ∙ refused_plan (parts_of run) n h.0 p q)
          step_seen false q =
              sees_ready (parts_of run) n below size own same fits kind is
              (λ s.
              let h = step_comes s in
              ap (λ a. is_accepted (decided (parts_of run) a n)) is_step ∙ ap is_accepted h.1
              ∙ ap is_accepted (accepted_plan (parts_of run) n h.0 p (waits_is p ∙ q)))
