-- What the parts promise each other: the look at a task's next call, the calls of a round, the rounds one after another.
use Rattle.std.specs.Prelude.{ℕ, ◌≤◌, ◌≡◌, List, [], ◌∷◌, Bool, true, false, Option, Some, None, Result, Ok, Err, length, take}
use Rattle.semantics.specs.Call.{Call}
use Rattle.semantics.specs.Turns.{next_call}
use Rattle.model_rounds.specs.Rounds.{ready, round_calls, rounds_from, all_calls, most_rounds, all_workers}
use Rattle.plans.specs.declared.StepPlan.{StepPlan}
use Rattle.plans.specs.declared.Stop.{Stop}
use Rattle.plans.specs.declared.Stop.TheVariants.{Held, Fault}
use Rattle.plans.specs.View.{Parts, record_of}
use Rattle.plans.specs.View as Of
use Rattle.runtime.specs.declared.Run.{Run}
use Rattle.runtime.specs.View.{model, context_of, SoundRun}
use Rattle.runtime.specs.Calls.{calls_of_kind}
use Rattle.turns.specs.declared.Kind.{Kind}
use Rattle.turns.specs.Moves.{kind_number}
use Rattle.sequence.specs.Replays.{calls_of}
use Rattle.run_rounds.specs.declared.Batch.{Batch}
use Rattle.run_rounds.specs.declared.Tally.{Tally}
use Rattle.run_rounds.specs.Sizes.{most_calls}

-- whether a step is held back by the tasks ahead
abbrev pub waits : Result StepPlan Stop → Bool
waits (Err (Held k)) = true
waits (Err (Fault k)) = false
waits (Ok plan) = false

-- whether task n's "next call would be accepted", and which it is
abbrev pub SeenAs : Parts → ℕ → Option Kind → Type 0
SeenAs run n None = Of.SoundRun run → ready (Of.context_of run) (Of.model run) n ≡ false
SeenAs run n (Some kind) =
    Of.SoundRun run
    → (calls_of_kind (kind_number kind) n ≡ next_call (Of.context_of run) (Of.model run) n ∷ [])
    × (ready (Of.context_of run) (Of.model run) n ≡ true)

-- the calls that a batch holds
abbrev pub batch_calls : Batch → List Call
batch_calls b = calls_of (take b.count b.kinds) (take b.count b.tasks)

-- "the first P jobs in the order whose next call would be accepted at the round's start"
pub record BatchOf (run : Run) (workers : ℕ) (b : Batch) : Type 0 where
  pub calls : SoundRun run → batch_calls b ≡ round_calls (context_of run) workers (model run)
  pub counted : SoundRun run → b.count ≡ length (batch_calls b)
  pub few : b.count ≤ all_workers
  pub kinds : length b.kinds ≡ all_workers
  pub tasks : length b.tasks ≡ all_workers

-- the rounds from this run on, and their calls
pub record TallyOf (run : Run) (workers : ℕ) (t : Tally) : Type 0 where
  pub rounds : SoundRun run → t.rounds ≡ length (rounds_from (context_of run) workers most_rounds (model run))
  pub calls : SoundRun run → t.calls ≡ length (all_calls (rounds_from (context_of run) workers most_rounds (model run)))
  pub few_rounds : t.rounds ≤ most_rounds
  pub few_calls : t.calls ≤ most_calls
