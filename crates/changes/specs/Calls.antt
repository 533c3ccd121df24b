-- What start, step and end promise, by the parts of the run: document 01, "Calls" and "Refused, by operation".
use Rattle.std.specs.Prelude.{◌≡◌, ℕ, List, Result, Err}
use Rattle.semantics.specs.declared.CallRefusal.{CallRefusal}
use Rattle.semantics.specs.Plan.{Action}
use Rattle.semantics.specs.Call.{Call, after, after_all}
use Rattle.semantics.specs.Answers.{answer_number, outcome_number}
use Rattle.plans.specs.View.{Parts, model, context_of, SoundRun}
use Rattle.plans.specs.Calls.{call_of, decided}

-- A call on task n of the run `from`, "each with any job number": it is answered so, and hands back the run r.
pub record CalledAs (a : Action) (from : Parts) (n : ℕ) (given : Result Unit CallRefusal) (r : Parts) : Type 0 where
  -- "0 or the refusal"
  pub answer : SoundRun from → answer_number given ≡ outcome_number (decided from a n)
  -- the run after the call
  pub run : SoundRun from → model r ≡ after (context_of from) (model from) (call_of a n)
  pub sound : SoundRun from → SoundRun r
  -- of every run: the list and the weights are kept, and "a refused call leaves it as it was"
  pub list : r.tables ≡ from.tables
  pub weights : r.weights ≡ from.weights
  pub refused : (k : CallRefusal) → given ≡ Err k → r ≡ from

-- these calls on the run `from`, one after the other, and the run that they leave
pub record CallsMade (calls : List Call) (from r : Parts) : Type 0 where
  pub list : r.tables ≡ from.tables
  pub weights : r.weights ≡ from.weights
  pub run : SoundRun from → model r ≡ after_all (context_of from) (model from) calls
  pub sound : SoundRun from → SoundRun r
