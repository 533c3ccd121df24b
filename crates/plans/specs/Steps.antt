-- What the parts of a step promise each other.
use Rattle.std.specs.Prelude.{◌≡◌, ℕ, ◌+◌, ◌≢◌, List, [], ◌∷◌, Result, Ok, Err}
use Rattle.tasklist.specs.declared.Instruction.{Instruction}
use Rattle.tasklist.specs.TaskList.{footprint_of}
use Rattle.tasklist.specs.Tables.{list_of}
use Rattle.semantics.specs.Run.{mode_of, task_of}
use Rattle.semantics.specs.Access.{access_fault}
use Rattle.semantics.specs.Effect.{Effect, own, moved, faulted, assigned, storing, adding}
use Rattle.semantics.specs.Footprint.{children, first_register}
use Rattle.semantics.specs.Plan.{plan_instruction, plan_make}
use Rattle.semantics.specs.Call.{Outcome, refuse, accept, admit, settle}
use Rattle.semantics.specs.Answers.{refusal_number, fault_number}
use Rattle.ahead.specs.Ahead.{access}
use Rattle.tables.specs.Children.{seen_from}
use Rattle.plans.specs.declared.Stop.{Stop}
use Rattle.plans.specs.declared.Stop.TheVariants.{Fault, Held}
use Rattle.plans.specs.declared.StepPlan.{StepPlan}
use Rattle.plans.specs.declared.StepPlan.TheVariants.{Assign, Pass, Store, Sum, Make}
use Rattle.plans.specs.View.{Parts, model, context_of, SoundRun, Placed, record_of}

-- the fault of task n's access
abbrev pub fault_at : Parts → ℕ → ℕ → ℕ → ℕ
fault_at run n a tested = access_fault (mode_of (task_of (model run) n) a) tested

-- what comes of task n's access to a location: the fault by the mode tested, else by the mode asked of those ahead
abbrev pub AccessAs : Parts → ℕ → ℕ → ℕ → ℕ → ℕ → Result Unit Stop → Type 0
AccessAs run n place a tested asked (Err (Fault k)) = SoundRun run → fault_at run n a tested ≡ fault_number k
AccessAs run n place a tested asked (Err (Held k)) =
    SoundRun run → Placed run n place
    → (fault_at run n a tested ≡ 0)
    × (asked ≢ 0 → (e : Effect) → admit (model run) n (access a asked ∷ []) e ≡ refuse (refusal_number k))
AccessAs run n place a tested asked (Ok done) =
    SoundRun run → Placed run n place
    → (fault_at run n a tested ≡ 0) × (asked ≢ 0 → (e : Effect) → admit (model run) n (access a asked ∷ []) e ≡ accept e)

-- a run with this order and these modes: what a plan looks at beside the task's own record
abbrev pub looking : List ℕ → List ℕ → Parts → Parts
looking order modes run = record run { modes = modes; order = order }

-- the same by the order and the modes alone
abbrev pub AccessIn : List ℕ → List ℕ → ℕ → ℕ → ℕ → ℕ → ℕ → Result Unit Stop → Type 0
AccessIn order modes n place a tested asked r = (run : Parts) → AccessAs (looking order modes run) n place a tested asked r

-- what a plan says of task n under weight w
unfoldable pub planned : Parts → ℕ → ℕ → Result StepPlan Stop → Outcome
planned run n w (Err (Held k)) = refuse (refusal_number k)
planned run n w (Err (Fault k)) = accept (own w (faulted (fault_number k) (task_of (model run) n)))
planned run n w (Ok (Assign a v)) = accept (own w (assigned a v (task_of (model run) n)))
planned run n w (Ok (Pass k)) =
    accept (own w (moved (1 + k) (task_of (model run) n).registers (task_of (model run) n)))
planned run n w (Ok (Store a v)) = accept (storing w a v (task_of (model run) n))
planned run n w (Ok (Sum a v)) = accept (adding w a v (task_of (model run) n))
planned run n w (Ok (Make s)) =
    let t = task_of (model run) n in
    settle (model run) n
    (plan_make (context_of run) w n t s.body
    (children s.body (footprint_of (list_of run.tables) s.footprint) (seen_from 0 s.children (first_register s.first t))))

-- what an instruction of task n comes to
unfoldable pub settled : Parts → ℕ → ℕ → Instruction → Outcome
settled run n w i = settle (model run) n (plan_instruction (context_of run) w n (task_of (model run) n) i)

-- the plan of an instruction of the task at this place
abbrev pub Plans : Parts → ℕ → ℕ → Instruction → Result StepPlan Stop → Type 0
Plans run n place i p = SoundRun run → Placed run n place → (w : ℕ) → settled run n w i ≡ planned run n w p

-- the same by the order, the modes, the memory and the task's registers alone
abbrev pub PlansIn : List ℕ → List ℕ → List ℕ → List ℕ → ℕ → ℕ → Instruction → Result StepPlan Stop → Type 0
PlansIn order modes memory registers n place i p =
    (run : Parts) → run.memory ≡ memory → (record_of run n).registers ≡ registers → Plans (looking order modes run) n place i p

-- the same by the registers alone
abbrev pub PlansFree : List ℕ → Instruction → Result StepPlan Stop → Type 0
PlansFree registers i p =
    (run : Parts) (n w : ℕ) → (task_of (model run) n).registers ≡ registers → settled run n w i ≡ planned run n w p
