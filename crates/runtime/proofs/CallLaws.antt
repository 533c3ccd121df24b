-- A call's run alone, and the tasks that it makes. Assumes nothing.
use Rattle.std.proofs.Common.{◌≡◌, ℕ, [], ◌∷◌, refl, arith, Option, Result, Ok, Err}
use Rattle.semantics.specs.declared.CallRefusal.{CallRefusal}
use Rattle.semantics.specs.declared.CallRefusal.TheVariants as Why
use Rattle.semantics.specs.Plan.{Action, step}
use Rattle.semantics.specs.Call.{Outcome, refuse, accept}
use Rattle.semantics.specs.Answers.{refusal_number, outcome_number}
use Rattle.semantics.specs.Sequential.{made_by}
use Rattle.plans.specs.Calls.{call_of}
use Rattle.changes.proofs.CallLaws as Of
use Rattle.runtime.specs.declared.Run.{Run}
use Rattle.runtime.specs.declared.Called.{Called}
use Rattle.tables.specs.declared.Block.{Block}
use Rattle.runtime.specs.View.{parts_of, SoundRun}
use Rattle.runtime.specs.Calls.{decided, MadeAs, CalledAs, SteppedAs, CallsMade}

pub call_made :
    (a : Action) (run : Run) (n : ℕ) (given : Result Unit CallRefusal) (next : Run) → MadeAs a run n given next
    → CallsMade (call_of a n ∷ []) run next
call_made a run n given next h = Of.one_call a (parts_of run) n given (parts_of next) h

pub one_call : (a : Action) (run : Run) (n : ℕ) (done : Called) → CalledAs a run n done → CallsMade (call_of a n ∷ []) run done.run
one_call a run n done h = call_made a run n done.answer done.run h

pub step_made :
    (run : Run) (n : ℕ) (given : Result (Option Block) CallRefusal) (next : Run) → SteppedAs run n given next
    → CallsMade (call_of step n ∷ []) run next
step_made run n (Ok made) next h = call_made step run n (Ok tt) next h.0
step_made run n (Err k) next h = call_made step run n (Err k) next h

-- no refusal has the number 0
pub no_refusal_0 : (k : CallRefusal) → refusal_number k ≡ 0 → ⊥
no_refusal_0 Why.Number q = omega arith
no_refusal_0 Why.Absent q = omega arith
no_refusal_0 Why.Started q = omega arith
no_refusal_0 Why.BehindWriter q = omega arith
no_refusal_0 Why.BehindOthers q = omega arith
no_refusal_0 Why.Waiting q = omega arith
no_refusal_0 Why.Finished q = omega arith
no_refusal_0 Why.Unfinished q = omega arith
no_refusal_0 Why.Location q = omega arith
no_refusal_0 Why.Short q = omega arith

-- a refused step makes no task
pub refused_makes_none :
    (run : Run) (n : ℕ) (k : CallRefusal) (next : Run) → SteppedAs run n (Err k) next → SoundRun run
    → made_by (decided run step n) ≡ []
refused_makes_none run n k next h s = by_outcome (decided run step n) (h.answer s)
  where
    by_outcome : (o : Outcome) → refusal_number k ≡ outcome_number o → made_by o ≡ []
    by_outcome (refuse j) q = refl
    by_outcome (accept e) q = absurd (no_refusal_0 k (unfold outcome_number in q))
