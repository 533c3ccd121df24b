-- A call refused, where a run stands or by value. Assumes nothing.
use Rattle.std.proofs.Common.{◌≡◌, ℕ, ◌<◌, sym, subst, Option, Result, Ok, Err}
use Rattle.std.specs.Prelude.{IsErrAnd}
use Rattle.semantics.specs.declared.CallRefusal.{CallRefusal}
use Rattle.semantics.specs.declared.CallRefusal.TheVariants.{Number}
use Rattle.semantics.specs.Plan.{Action, step}
use Rattle.semantics.specs.Call.{refuse}
use Rattle.semantics.specs.Answers.{refusal_number}
use Rattle.plans.proofs.DecideLaws.{no_number}
use Rattle.changes.proofs.CallLaws.{called_refused}
use Rattle.runtime.specs.declared.Run.{Run}
use Rattle.tables.specs.declared.Block.{Block}
use Rattle.runtime.specs.View.{parts_of, SoundRun}
use Rattle.runtime.specs.Calls.{decided, MadeAs, SteppedAs}

module _ (a : Action) (run : Run) (n : ℕ) where
  -- the very run is left
  pub made_refused :
      (k : CallRefusal) → (SoundRun run → decided run a n ≡ refuse (refusal_number k)) → (given : Result Unit CallRefusal)
      → IsErrAnd given (λ e. e ≡ k) → MadeAs a run n given run
  made_refused k h (Ok _) q = elim q [ ]
  made_refused k h (Err e) q = subst (λ e. MadeAs a run n (Err e) run) (sym q) (called_refused a (parts_of run) n k h)

  -- no number above 127 is a task's
  pub made_no_number : 127 < n → (k : CallRefusal) → k ≡ Number → (given : Result Unit CallRefusal) → IsErrAnd given (λ e. e ≡ k) → MadeAs a run n given run
  made_no_number far k q given h = made_refused k (λ s. subst (λ k. decided run a n ≡ refuse (refusal_number k)) (sym q) (no_number (parts_of run) n a far)) given h

-- the same of a step
pub step_refused :
    (run : Run) (n : ℕ) (k : CallRefusal) → (SoundRun run → decided run step n ≡ refuse (refusal_number k))
    → (given : Result (Option Block) CallRefusal) → IsErrAnd given (λ e. e ≡ k) → SteppedAs run n given run
step_refused run n k h (Ok _) q = elim q [ ]
step_refused run n k h (Err e) q = made_refused step run n k h (Err e) q

pub step_no_number :
    (run : Run) (n : ℕ) → 127 < n → (k : CallRefusal) → k ≡ Number → (given : Result (Option Block) CallRefusal)
    → IsErrAnd given (λ e. e ≡ k) → SteppedAs run n given run
step_no_number run n far k q (Ok _) h = elim h [ ]
step_no_number run n far k q (Err e) h = made_no_number step run n far k q (Err e) h
