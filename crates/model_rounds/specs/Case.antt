-- What a worked case of request 111 says, as a test that computes. Runs are under today's weights where none are given.
use Rattle.std.specs.Prelude.{ℕ, List, [], ◌∷◌, map, Bool, true, false, ◌&&◌, eqb}
use Rattle.tasklist.specs.TaskList.{TaskList}
use Rattle.semantics.specs.Run.{context, fixed_weights}
use Rattle.semantics.specs.Call.{Call}
use Rattle.semantics.specs.Case.{same, asked_number}
use Rattle.model_rounds.specs.Rounds.{publication, Report, report, rounds_asked}

pub data Case : Type 0 where
  -- the rounds of a list and a library with so many workers, their calls, and the span
  by_rounds : TaskList → List ℕ → ℕ → ℕ → ℕ → ℕ → Case
  -- the tasks that call in each of these rounds, front to back
  tasks_are : TaskList → List ℕ → ℕ → List (List ℕ) → Case
  -- what asking for the rounds with so many workers of these bytes, a library and a table of weights answers: 0 or its
  -- refusal
  rounds_with : ℕ → List ℕ → List ℕ → List ℕ → ℕ → Case

unfoldable pub reports : ℕ → ℕ → ℕ → Report → Bool
reports rounds calls span q = eqb q.rounds rounds && eqb q.calls calls && eqb q.span span

unfoldable pub same_tasks : List (List Call) → List (List ℕ) → Bool
same_tasks [] [] = true
same_tasks [] (ns ∷ jobs) = false
same_tasks (calls ∷ rounds) [] = false
same_tasks (calls ∷ rounds) (ns ∷ jobs) = same (map (λ b. b.task) calls) ns && same_tasks rounds jobs

unfoldable pub holds : Case → Bool
holds (by_rounds l m workers rounds calls span) = reports rounds calls span (report (context l fixed_weights) m workers)
holds (tasks_are l m workers jobs) = same_tasks (publication (context l fixed_weights) m workers) jobs
holds (rounds_with workers bytes m weights k) = eqb (asked_number (rounds_asked workers bytes m weights)) k
