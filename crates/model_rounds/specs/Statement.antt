-- What holds of the rounds: document 02, request 111. The theorem is `RoundsTheorem`, proved in proofs/Theorem.antt.
use Rattle.std.specs.Prelude.{ℕ, ◌+◌, ◌-◌, ◌*◌, ◌≤◌, ◌≡◌, List, [], ◌∷◌, map, true, length}
use Rattle.tasklist.specs.Accepted.{Accepted}
use Rattle.semantics.specs.Run.{Run, Context, initial}
use Rattle.semantics.specs.Call.{Call, after_all, accepted_count}
use Rattle.semantics.specs.Turns.{next_call}
use Rattle.semantics.specs.Operations.{Library}
use Rattle.semantics.specs.Sound.{In, Distinct}
use Rattle.model_rounds.specs.Rounds.{ready, all_calls, publication, report}

-- "at most P such calls per round, one per job": the calls of one round of any choice; it may have none
pub record Chosen (c : Context) (workers : ℕ) (r : Run) (calls : List Call) : Type 0 where
  pub few : length calls ≤ workers
  -- "such calls": each is its task's next call, and "would be accepted at the round's start"
  pub next : (b : Call) → In b calls → b ≡ next_call c r b.task
  pub accepted : (b : Call) → In b calls → ready c r b.task ≡ true
  pub once : Distinct (map (λ b. b.task) calls)

-- "Every other choice": such rounds, one after another, each from the run that those before it leave
unfoldable pub Choice : Context → ℕ → Run → List (List Call) → Type 0
Choice c workers r [] = Unit {0}
Choice c workers r (calls ∷ rounds) = Chosen c workers r calls × Choice c workers (after_all c r calls) rounds

-- "that finishes the list": no task is left after its calls
abbrev pub Finishes : Context → Run → List (List Call) → Type 0
Finishes c r rounds = (after_all c r (all_calls rounds)).order ≡ []

-- Request 111, a field for each clause.
pub record RoundsLaw (c : Context) (memory : List ℕ) (workers : ℕ) : Type 0 where
  -- "the rounds a publication takes": they finish the list, and they are such a choice themselves
  pub finishes : Finishes c (initial c memory) (publication c memory workers)
  pub choice : Choice c workers (initial c memory) (publication c memory workers)
  -- "All reported calls are accepted."
  pub accepted :
      accepted_count c (initial c memory) (all_calls (publication c memory workers)) ≡ (report c memory workers).calls
  -- "P × rounds is at most calls + (P − 1) × span."
  pub upper :
      workers * (report c memory workers).rounds
      ≤ (report c memory workers).calls + (workers - 1) * (report c memory workers).span
  -- "Every other choice of at most P such calls per round, one per job, that finishes the list takes at least span rounds"
  pub least_rounds :
      (rounds : List (List Call)) → Choice c workers (initial c memory) rounds → Finishes c (initial c memory) rounds
      → (report c memory workers).span ≤ length rounds
  -- "and P times its rounds is at least the calls."
  pub least_calls :
      (rounds : List (List Call)) → Choice c workers (initial c memory) rounds → Finishes c (initial c memory) rounds
      → (report c memory workers).calls ≤ workers * length rounds

-- For every accepted list, every table of weights (`c` holds both), every library that fits and every number of workers, 1 or
-- more: 128 too, so that the span is such a report itself.
abbrev pub RoundsTheorem : Type 0
RoundsTheorem =
    (c : Context) → Accepted c.list → (memory : List ℕ) → Library c memory → (workers : ℕ) → 1 ≤ workers
    → RoundsLaw c memory workers
