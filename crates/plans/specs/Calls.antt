-- What the model decides of a call: document 01, "Calls" and "Refused, by operation".
use Rattle.std.specs.Prelude.{ℕ}
use Rattle.semantics.specs.Plan.{Action}
use Rattle.semantics.specs.Call.{Call, Outcome, decide}
use Rattle.plans.specs.View.{Parts, model, context_of}

abbrev pub call_of : Action → ℕ → Call
call_of a n = record { action = a; task = n }

-- what the model decides of a call on task n
abbrev pub decided : Parts → Action → ℕ → Outcome
decided run a n = decide (context_of run) (model run) (call_of a n)
