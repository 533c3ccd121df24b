-- The change that a step comes to, by what was found of the task and its instruction. Assumes nothing.
use Rattle.std.proofs.Common.{Result, Ok, Err, ◌≡◌, ℕ, ◌+◌, ◌*◌, ◌^◌, ◌<◌, List, length, get_or, refl, sym, ap, ◌∙◌, arith}
use Rattle.tasklist.specs.declared.Instruction.{Instruction}
use Rattle.tasklist.specs.declared.Tables.{Tables}
use Rattle.tasklist.specs.Encode.{instruction_fields}
use Rattle.tasklist.specs.TaskList.{body_of, instruction_of}
use Rattle.tasklist.specs.Tables.{list_of}
use Rattle.arrays.specs.declared.order.Order.{Order}
use Rattle.semantics.specs.declared.CallRefusal.{CallRefusal}
use Rattle.semantics.specs.declared.Fault.{Fault}
use Rattle.semantics.specs.declared.Record.{Record}
use Rattle.semantics.specs.Answers.{fault_number}
use Rattle.semantics.specs.Run.{weight_of}
use Rattle.semantics.specs.Effect.{put, add}
use Rattle.semantics.specs.Plan.{units}
use Rattle.semantics.specs.Call.{edited}
use Rattle.records.specs.Records.{passed, failed, holding}
use Rattle.plans.specs.declared.Spawning.{Spawning}
use Rattle.plans.specs.declared.Stop.{Stop}
use Rattle.plans.specs.declared.Stop.TheVariants as Stops
use Rattle.plans.specs.declared.StepPlan.{StepPlan}
use Rattle.plans.specs.declared.StepPlan.TheVariants as Planned
use Rattle.plans.specs.View.{Parts, record_of}
use Rattle.plans.specs.Steps.{planned, PlansIn}
use Rattle.looks.specs.Looks.{finished, ReadyIn}
use Rattle.changes.specs.declared.Change.{Change}
use Rattle.changes.specs.Changes.{counted}
use Rattle.steps.specs.Stepping.{StepsTo, lent, SpawnedBy, SteppedBy}
use Rattle.plans.proofs.StepLaws.{step_settled}
use Rattle.looks.proofs.LookLaws.{ends}
use Rattle.steps.proofs.CarryLaws.{fault_step, assign_step, pass_step, edit_step}

-- what an instruction weighs
weighs_little : (number count : ℕ) → number < 65536 → count < 256 → count * number < 2 ^ 24
weighs_little number count l h = grind arith

module _ (tables : Tables) (memory modes : List ℕ) (order : Order) (own : Record) (n : ℕ) (weights : List ℕ) where
  -- a run with the parts
  abbrev from : Parts → Parts
  from run = lent tables memory modes order run

  -- what comes of a step of the task with this record
  abbrev pub Stepped : List ℕ → List ℕ → Order → Result Change CallRefusal → Type 0
  Stepped memory' modes' order' r = SteppedBy tables memory modes order memory' modes' order' own n weights r

  -- the task stands at this place, and its step comes to this plan, under weight w
  pub record StepsBy (place w : ℕ) (p : Result StepPlan Stop) : Type 0 where
    pub below : n < 128
    pub light : w < 2 ^ 24
    pub steps : (run : Parts) → record_of run n ≡ own → run.weights ≡ weights → StepsTo n (from run) place w p

  module _ (size : ℕ) (fits : size ≡ length (body_of (list_of tables) own.body)) where
    pub change_before : (k : CallRefusal) → ReadyIn order own size n (Err k) → Stepped memory modes order (Err k)
    change_before k ready = (refl, refl, refl, λ run same table. ready (from run) same fits)

    pub steps_by :
        (place : ℕ) → ReadyIn order own size n (Ok place) → (i : Instruction)
        → i ≡ instruction_of (list_of tables) own.body own.pc → (code : ℕ) → code ≡ get_or (instruction_fields i) 0 0
        → (p : Result StepPlan Stop) → PlansIn order.places modes memory own.registers n place i p → (count : ℕ) → count ≡ units i → count < 256
        → (number : ℕ) → number ≡ get_or weights (code + 2) 0 → number < 65536
        → StepsBy place (count * number) p
    unfolding weight_of
    steps_by place ready i at code is p plans count often few number weighs light =
        record {
          below = ready.0;
          light = weighs_little number count light few;
          steps =
              λ run same table s. (
                ready.3 (from run) s,
                step_settled (from run) n ready.0 s place (ready.3 (from run) s) (ap (λ (t : Record). t.state) same ∙ ready.1)
                    (finished size own) (ends (from run) n size own ready.0 same fits s) ready.2 i code count
                    (at ∙ sym (ap (λ (t : Record). instruction_of (list_of tables) t.body t.pc) same)) is often p
                    (plans (from run) refl (ap (λ (t : Record). t.registers) same))
                    ∙ ap (λ k. planned (from run) n (count * k) p) (ap (λ (ws : List ℕ). get_or ws (code + 2) 0) table ∙ sym weighs),
              );
        }

-- Plan by plan.
module _
    {tables : Tables} {memory : List ℕ} {modes : List ℕ} {order : Order} {own : Record} {n : ℕ} {weights : List ℕ} {place : ℕ} {w : ℕ}
  where
    pub change_held :
        (k : CallRefusal) → StepsBy tables memory modes order own n weights place w (Err (Stops.Held k))
        → Stepped tables memory modes order own n weights memory modes order (Err k)
    unfolding planned
    change_held k b = (refl, refl, refl, λ run same table s. (b.steps run same table s).1)

    pub change_fault :
        (k : Fault) → StepsBy tables memory modes order own n weights place w (Err (Stops.Fault k))
        → Stepped tables memory modes order own n weights memory modes order (Ok (counted (failed (fault_number k) own) w))
    change_fault k b = (tt, λ run same table. fault_step _ n b.below own same w b.light place k (b.steps run same table))

    pub change_assign :
        (a v : ℕ) → StepsBy tables memory modes order own n weights place w (Ok (Planned.Assign a v))
        → Stepped tables memory modes order own n weights memory modes order (Ok (counted (holding a v (passed 0 own)) w))
    change_assign a v b = (tt, λ run same table. assign_step _ n b.below own same w b.light place a v (b.steps run same table))

    pub change_pass :
        (k : ℕ) → k < 256 → StepsBy tables memory modes order own n weights place w (Ok (Planned.Pass k))
        → Stepped tables memory modes order own n weights memory modes order (Ok (counted (passed k own) w))
    change_pass k small b = (tt, λ run same table. pass_step _ n b.below own same w b.light place k small (b.steps run same table))

    pub change_store :
        (a v : ℕ) → StepsBy tables memory modes order own n weights place w (Ok (Planned.Store a v))
        → Stepped tables memory modes order own n weights (edited (put a v) memory) modes order (Ok (counted (passed 0 own) w))
    unfolding planned
    change_store a v b = (tt, λ run same table. edit_step _ n b.below own same w b.light (put a v) (λ s. (b.steps run same table s).1))

    pub change_sum :
        (a v : ℕ) → StepsBy tables memory modes order own n weights place w (Ok (Planned.Sum a v))
        → Stepped tables memory modes order own n weights (edited (add a v) memory) modes order (Ok (counted (passed 0 own) w))
    unfolding planned
    change_sum a v b = (tt, λ run same table. edit_step _ n b.below own same w b.light (add a v) (λ s. (b.steps run same table s).1))

    pub change_make :
        (s : Spawning) → StepsBy tables memory modes order own n weights place w (Ok (Planned.Make s))
        → (modes' : List ℕ) (order' : Order) (c : Change) → SpawnedBy tables modes order modes' order' own n place s w c
        → Stepped tables memory modes order own n weights memory modes' order' (Ok c)
    change_make s b modes' order' c h = (h.0, λ run same table. h.1 (lent tables memory modes order run) same b.light (b.steps run same table))
