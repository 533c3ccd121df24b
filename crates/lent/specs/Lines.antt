-- What the coordinator's input means: document 01, "two-byte calls from standard input: 0 start, 1 step, 2 end, then the job".
use Rattle.std.specs.Prelude.{ℕ, zero, suc, List, [], ◌∷◌, ◌++◌, Result, Ok, Err}
use Rattle.semantics.specs.Run.{Context, Run}
use Rattle.semantics.specs.Plan.{start, step, «end»}
use Rattle.semantics.specs.Call.{Call, decide, after_all}
use Rattle.semantics.specs.Answers.{outcome_number, refusal_number}
use Rattle.plans.specs.Calls.{call_of}
use Rattle.runtime.specs.Calls.{calls_of_kind}
use Rattle.lent.specs.declared.LineRefusal.{LineRefusal}
use Rattle.lent.specs.declared.LineRefusal.TheVariants.{NoCall, Call as CallRefused}

-- the calls of these bytes; half a call is none
unfoldable pub calls_in : List ℕ → List Call
calls_in [] = []
calls_in (k ∷ []) = []
calls_in (k ∷ n ∷ bytes) = calls_of_kind k n ++ calls_in bytes

-- "0 or the refusal (another kind .. : 18)": the number of a call of this kind
unfoldable pub line : Context → Run → ℕ → ℕ → ℕ
line c r zero n = outcome_number (decide c r (call_of start n))
line c r (suc zero) n = outcome_number (decide c r (call_of step n))
line c r (suc (suc zero)) n = outcome_number (decide c r (call_of «end» n))
line c r (suc (suc (suc k))) n = 18

-- "one line per call", "or half a call: 18"
unfoldable pub lines : Context → Run → List ℕ → List ℕ
lines c r [] = []
lines c r (k ∷ []) = 18 ∷ []
lines c r (k ∷ n ∷ bytes) = line c r k n ∷ lines c (after_all c r (calls_of_kind k n)) bytes

-- "(another kind .. : 18)", or the number of the call's refusal
abbrev pub line_refusal_number : LineRefusal → ℕ
line_refusal_number NoCall = 18
line_refusal_number (CallRefused k) = refusal_number k

-- "0 or the refusal": the number of an answer
abbrev pub line_number : Result Unit LineRefusal → ℕ
line_number (Ok done) = 0
line_number (Err k) = line_refusal_number k
