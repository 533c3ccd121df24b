-- What start, step and end promise: document 01, "Calls" and "Refused, by operation". A run promises it by its parts (crate
-- `changes`).
use Rattle.std.specs.Prelude.{ℕ, zero, suc, ◌≡◌, ◌+◌, ◌*◌, ◌<◌, List, [], ◌∷◌, Option, Some, None, IfSome, Result, Ok, Err}
use Rattle.semantics.specs.declared.CallRefusal.{CallRefusal}
use Rattle.semantics.specs.Sequential.{made_by}
use Rattle.tables.specs.Children.{numbers}
use Rattle.tables.specs.declared.Block.{Block}
use Rattle.semantics.specs.Plan.{Action, start, step, «end»}
use Rattle.semantics.specs.Call.{Call, Outcome}
use Rattle.plans.specs.Calls.{call_of}
use Rattle.plans.specs.Calls as Model
use Rattle.changes.specs.Calls as Of
use Rattle.runtime.specs.declared.Run.{Run}
use Rattle.runtime.specs.declared.Called.{Called}
use Rattle.runtime.specs.View.{parts_of, SoundRun}

-- what the model decides of a call on task n
abbrev pub decided : Run → Action → ℕ → Outcome
decided run a n = Model.decided (parts_of run) a n

-- A call on task n of the run `from`, "each with any job number": what it answers, and the run that it leaves.
abbrev pub MadeAs : Action → Run → ℕ → Result Unit CallRefusal → Run → Type 0
MadeAs a from n given r = Of.CalledAs a (parts_of from) n given (parts_of r)

-- the same of what is handed back
abbrev pub CalledAs : Action → Run → ℕ → Called → Type 0
CalledAs a from n r = MadeAs a from n r.answer r.run

-- the numbers of these tasks, foremost first
abbrev pub numbers_of : Option Block → List ℕ
numbers_of None = []
numbers_of (Some made) = numbers made.first made.apart made.children

-- A step that is accepted: these tasks are made, foremost first, and each has a place among the records.
pub record Makes (from : Run) (n : ℕ) (made : Option Block) : Type 0 where
  pub numbers : SoundRun from → made_by (decided from step n) ≡ numbers_of made
  pub near : IfSome made (λ made. (i : ℕ) → i < made.children → made.first + i * made.apart < 128)

-- a step on task n, where it is accepted with the tasks that it makes
abbrev pub SteppedAs : Run → ℕ → Result (Option Block) CallRefusal → Run → Type 0
SteppedAs from n (Ok made) r = MadeAs step from n (Ok tt) r × Makes from n made
SteppedAs from n (Err k) r = MadeAs step from n (Err k) r

-- "0 start, 1 step, 2 end, then the job"; another kind is no call
unfoldable pub calls_of_kind : ℕ → ℕ → List Call
calls_of_kind zero n = call_of start n ∷ []
calls_of_kind (suc zero) n = call_of step n ∷ []
calls_of_kind (suc (suc zero)) n = call_of «end» n ∷ []
calls_of_kind (suc (suc (suc k))) n = []

-- these calls on the run `from`, one after the other, and the run that they leave
abbrev pub CallsMade : List Call → Run → Run → Type 0
CallsMade calls from r = Of.CallsMade calls (parts_of from) (parts_of r)
