-- What a start and an end change of a run, by the parts of the run that they look at.
use Rattle.std.specs.Prelude.{◌≡◌, ℕ, ◌+◌, ◌%◌, ◌^◌, ◌≤◌, List, length, slice_set, None, Result, Ok, Err}
use Rattle.arrays.specs.declared.order.Order.{Order}
use Rattle.semantics.specs.declared.Record.{Record}
use Rattle.semantics.specs.declared.CallRefusal.{CallRefusal}
use Rattle.semantics.specs.Plan.{Action, start, «end»}
use Rattle.semantics.specs.Call.{refuse}
use Rattle.semantics.specs.Answers.{refusal_number}
use Rattle.plans.specs.View.{Parts, SoundRun, record_of}
use Rattle.plans.specs.Calls.{decided}
use Rattle.looks.specs.Looks.{with_parts, ordered, BodySize}
use Rattle.changes.specs.declared.Change.{Change}
use Rattle.changes.specs.Calls.{CalledAs}

-- a record with this much more weight, as 32 bits hold it
abbrev pub heavier : ℕ → Record → Record
heavier w t = record t { weight = (t.weight + w) % 2 ^ 32 }

-- the arrays are whole
pub record WholeRun (run : Parts) : Type 0 where
  pub memory : length run.memory ≡ 64
  pub records : length run.records ≡ 128
  pub modes : length run.modes ≡ 8192
  pub order : length run.order ≡ 128
  pub left : run.left ≤ 128

-- "Each accepted call adds 1 to calls and its weight to record and run."; no task is made
abbrev pub counted : Record → ℕ → Change
counted t w = record { own = heavier w t; weight = w; made = None }

-- the run with a change of task n put into it
abbrev pub put : ℕ → Change → Parts → Parts
put n c run =
    record run {
      records = slice_set run.records n c.own;
      calls = (run.calls + 1) % 2 ^ 32;
      weight = (run.weight + c.weight) % 2 ^ 32;
    }

-- a call on task n of the run `from`: refused, or by its change the run `next` is left
abbrev pub ChangeOf : Action → ℕ → Parts → (Change → Parts) → Result Change CallRefusal → Type 0
ChangeOf a n from next (Err k) = SoundRun from → decided from a n ≡ refuse (refusal_number k)
ChangeOf a n from next (Ok c) = CalledAs a from n (Ok tt) (next c)

-- a start, by the order, the modes, the task's own record and the weights
abbrev pub StartedBy : Order → List ℕ → Record → ℕ → List ℕ → Result Change CallRefusal → Type 0
StartedBy order modes own n weights r =
    (run : Parts) → record_of run n ≡ own → run.weights ≡ weights
    → ChangeOf start n (with_parts run.tables run.memory modes order.places order.left run)
    (λ c. put n c (with_parts run.tables run.memory modes order.places order.left run)) r

-- an end, which leaves the order `after`: the very same where it is refused
abbrev pub EndedBy : Order → Order → Record → ℕ → ℕ → List ℕ → Result Change CallRefusal → Type 0
EndedBy order after own size n weights (Err k) =
    (after ≡ order)
    × ((run : Parts) → record_of run n ≡ own → run.weights ≡ weights → BodySize size own run
    → ChangeOf «end» n (ordered order.places order.left run) (λ c. put n c (ordered after.places after.left run)) (Err k))
EndedBy order after own size n weights (Ok c) =
    (run : Parts) → record_of run n ≡ own → run.weights ≡ weights → BodySize size own run
    → ChangeOf «end» n (ordered order.places order.left run) (λ c. put n c (ordered after.places after.left run)) (Ok c)
