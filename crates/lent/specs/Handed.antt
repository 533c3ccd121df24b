-- What a call on a lent run promises: document 01, "the coordinator lends its one run to each call, which alters it".
use Rattle.std.specs.Prelude.{ℕ, Result}
use Rattle.semantics.specs.declared.CallRefusal.{CallRefusal}
use Rattle.semantics.specs.Plan.{Action}
use Rattle.runtime.specs.declared.Run.{Run}
use Rattle.runtime.specs.Calls.{CalledAs}

-- a call on task n of a lent run, from what it is at the call to what the call leaves: what the method on the run by value
-- promises of the answer and the run that it hands back
abbrev pub CalledIn : Action → Run → ℕ → Result Unit CallRefusal → Run → Type 0
CalledIn a from n answer to = CalledAs a from n (record { answer = answer; run = to })
