-- What a step changes of a run, by the parts of the run that it looks at.
use Rattle.std.specs.Prelude.{ℕ, ◌+◌, ◌^◌, ◌≤◌, ◌<◌, zero, suc, ◌*◌, ◌≡◌, List, [], set, Option, Some, None, IfSome, Result, Ok, Err}
use Rattle.tasklist.specs.declared.Tables.{Tables}
use Rattle.arrays.specs.declared.order.Order.{Order}
use Rattle.semantics.specs.declared.Record.{Record}
use Rattle.semantics.specs.declared.CallRefusal.{CallRefusal}
use Rattle.semantics.specs.Plan.{step}
use Rattle.semantics.specs.Call.{refuse}
use Rattle.semantics.specs.Sequential.{made_by}
use Rattle.semantics.specs.Answers.{refusal_number}
use Rattle.tables.specs.Children.{numbers}
use Rattle.records.specs.Records.{child_record}
use Rattle.plans.specs.declared.Spawning.{Spawning}
use Rattle.plans.specs.declared.Stop.{Stop}
use Rattle.plans.specs.declared.StepPlan.{StepPlan}
use Rattle.plans.specs.declared.StepPlan.TheVariants.{Make}
use Rattle.plans.specs.View.{Parts, SoundRun, Placed, record_of}
use Rattle.plans.specs.Calls.{decided}
use Rattle.plans.specs.Steps.{planned}
use Rattle.looks.specs.Looks.{with_parts}
use Rattle.changes.specs.declared.Change.{Change}
use Rattle.changes.specs.declared.Made.{Made}
use Rattle.changes.specs.Calls.{CalledAs}
use Rattle.changes.specs.Changes.{put}

-- the records with those of the first k children written, the last of them first
unfoldable pub with_children : ℕ → ℕ → Record → ℕ → List Record → List Record
with_children child apart made zero rs = rs
with_children child apart made (suc k) rs =
    with_children child apart made k (set rs (child + k * apart) (child_record k made))

-- the run with the records of all tasks that a change makes
abbrev pub with_made : Option Made → Parts → Parts
with_made None run = run
with_made (Some m) run = record run { records = with_children m.block.first m.block.apart m.record m.block.children run.records }

-- these are the tasks that a step of task n makes, foremost first
abbrev pub Makes : Parts → ℕ → Option Made → Type 0
Makes run n None = made_by (decided run step n) ≡ []
Makes run n (Some m) = made_by (decided run step n) ≡ numbers m.block.first m.block.apart m.block.children

-- the records of all tasks made have a place
pub record Fits (m : Made) : Type 0 where
  pub few : m.block.children ≤ 128
  pub near : (i : ℕ) → i < m.block.children → m.block.first + i * m.block.apart < 128

-- a step of task n of the run `from` by its change, put into the run `next`, and the tasks that it makes
abbrev pub StepOf : ℕ → Parts → Parts → Change → Type 0
StepOf n from next c = CalledAs step from n (Ok tt) (with_made c.made (put n c next)) × (SoundRun from → Makes from n c.made)

-- task n stands at this place, and its step comes to this plan under weight w
abbrev pub StepsTo : ℕ → Parts → ℕ → ℕ → Result StepPlan Stop → Type 0
StepsTo n run place w p = SoundRun run → Placed run n place × (decided run step n ≡ planned run n w p)

-- a run with the parts that a step is lent
abbrev pub lent : Tables → List ℕ → List ℕ → Order → Parts → Parts
lent tables memory modes order run = with_parts tables memory modes order.places order.left run

-- tasks made by the task at this place, which leaves other modes and another order
abbrev pub SpawnedBy : Tables → List ℕ → Order → List ℕ → Order → Record → ℕ → ℕ → Spawning → ℕ → Change → Type 0
SpawnedBy tables modes order modes' order' own n place s w c =
    IfSome c.made Fits
    × ((run : Parts) → record_of run n ≡ own → w < 2 ^ 24
    → StepsTo n (lent tables run.memory modes order run) place w (Ok (Make s))
    → StepOf n (lent tables run.memory modes order run) (lent tables run.memory modes' order' run) c)

-- a step, which leaves another memory, other modes and another order: the very same where it is refused
abbrev pub SteppedBy :
    Tables → List ℕ → List ℕ → Order → List ℕ → List ℕ → Order → Record → ℕ → List ℕ → Result Change CallRefusal → Type 0
SteppedBy tables memory modes order memory' modes' order' own n weights (Err k) =
    (memory' ≡ memory) × (modes' ≡ modes) × (order' ≡ order)
    × ((run : Parts) → record_of run n ≡ own → run.weights ≡ weights → SoundRun (lent tables memory modes order run)
    → decided (lent tables memory modes order run) step n ≡ refuse (refusal_number k))
SteppedBy tables memory modes order memory' modes' order' own n weights (Ok c) =
    IfSome c.made Fits
    × ((run : Parts) → record_of run n ≡ own → run.weights ≡ weights
    → StepOf n (lent tables memory modes order run) (lent tables memory' modes' order' run) c)
