-- What comes of the look that a call begins with, by the parts of the run that it looks at.
use Rattle.std.specs.Prelude.{ℕ, ◌<◌, ◌≡◌, List, Bool, false, not, ◌||◌, length, eqb, leb, Result, Ok, Err}
use Rattle.tasklist.specs.declared.Tables.{Tables}
use Rattle.tasklist.specs.TaskList.{body_of}
use Rattle.tasklist.specs.Tables.{list_of}
use Rattle.arrays.specs.declared.order.Order.{Order}
use Rattle.semantics.specs.declared.Record.{Record}
use Rattle.semantics.specs.declared.CallRefusal.{CallRefusal}
use Rattle.semantics.specs.Run.{task_of, start_weight, end_weight}
use Rattle.semantics.specs.Effect.{Effect, own, in_state, leaving}
use Rattle.semantics.specs.Plan.{Action, start, step, «end»}
use Rattle.semantics.specs.Call.{refuse, accept}
use Rattle.semantics.specs.Answers.{refusal_number}
use Rattle.plans.specs.View.{Parts, model, context_of, SoundRun, Placed, record_of}
use Rattle.plans.specs.Calls.{decided}

-- a run with these parts
abbrev pub with_parts : Tables → List ℕ → List ℕ → List ℕ → ℕ → Parts → Parts
with_parts tables memory modes order left run =
    record run { tables = tables; memory = memory; modes = modes; order = order; left = left }

-- a run with this order
abbrev pub ordered : List ℕ → ℕ → Parts → Parts
ordered order left run = with_parts run.tables run.memory run.modes order left run

-- so many instructions has the body of this record
abbrev pub BodySize : ℕ → Record → Parts → Type 0
BodySize size own run = size ≡ length (body_of (list_of run.tables) own.body)

-- "at its end: its place is its sheet's length, or it has a fault"
abbrev pub finished : ℕ → Record → Bool
finished size t = leb size t.pc || not (eqb t.fault 0)

-- "9 number above 127; 10 not in the order", whatever is called; else the task's place
abbrev pub LocatedAs : Parts → ℕ → Result ℕ CallRefusal → Type 0
LocatedAs run n (Err k) = SoundRun run → (a : Action) → decided run a n ≡ refuse (refusal_number k)
LocatedAs run n (Ok place) = (n < 128) × (SoundRun run → Placed run n place)

-- what comes of a call: refused, or this effect, of the task at this place
abbrev pub PlannedAs : Action → Effect → Parts → ℕ → Result ℕ CallRefusal → Type 0
PlannedAs a e run n (Err k) = SoundRun run → decided run a n ≡ refuse (refusal_number k)
PlannedAs a e run n (Ok place) = (n < 128) × (SoundRun run → Placed run n place × (decided run a n ≡ accept e))

abbrev pub start_effect : Parts → ℕ → Effect
start_effect run n = own (start_weight (context_of run)) (in_state 2 (task_of (model run) n))

abbrev pub end_effect : Parts → ℕ → Effect
end_effect run n = leaving (end_weight (context_of run)) (task_of (model run) n)

-- the task's place by the order alone
abbrev pub LocatedIn : Order → ℕ → Result ℕ CallRefusal → Type 0
LocatedIn order n r = (run : Parts) → LocatedAs (ordered order.places order.left run) n r

-- the place of a started task, by the order and the task's own record: a step and an end have the same refusals before
abbrev pub StartedIn : Order → Record → ℕ → Result ℕ CallRefusal → Type 0
StartedIn order own n (Err k) =
    (run : Parts) → record_of run n ≡ own → SoundRun (ordered order.places order.left run)
    → (decided (ordered order.places order.left run) step n ≡ refuse (refusal_number k))
    × (decided (ordered order.places order.left run) «end» n ≡ refuse (refusal_number k))
StartedIn order own n (Ok place) = (own.state ≡ 2) × LocatedIn order n (Ok place)

-- what comes of a start, by the order, the modes and the task's own record
abbrev pub StartIn : Order → List ℕ → Record → ℕ → Result ℕ CallRefusal → Type 0
StartIn order modes own n r =
    (run : Parts) → record_of run n ≡ own
    → PlannedAs start (start_effect (with_parts run.tables run.memory modes order.places order.left run) n)
    (with_parts run.tables run.memory modes order.places order.left run) n r

-- what comes of an end, by the order, the task's own record and the size of its body
abbrev pub EndIn : Order → Record → ℕ → ℕ → Result ℕ CallRefusal → Type 0
EndIn order own size n r =
    (run : Parts) → record_of run n ≡ own → BodySize size own run
    → PlannedAs «end» (end_effect (ordered order.places order.left run) n) (ordered order.places order.left run) n r

-- what comes of a step before its instruction is looked at
abbrev pub ReadyIn : Order → Record → ℕ → ℕ → Result ℕ CallRefusal → Type 0
ReadyIn order own size n (Err k) =
    (run : Parts) → record_of run n ≡ own → BodySize size own run → SoundRun (ordered order.places order.left run)
    → decided (ordered order.places order.left run) step n ≡ refuse (refusal_number k)
ReadyIn order own size n (Ok place) =
    (n < 128) × (own.state ≡ 2) × (finished size own ≡ false)
    × ((run : Parts) → SoundRun (ordered order.places order.left run)
    → Placed (ordered order.places order.left run) n place)
