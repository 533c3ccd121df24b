-- The sequential run (document 01: hand run) and its calls.
use Rattle.std.specs.Prelude.{ℕ, zero, suc, List, [], ◌∷◌, ◌++◌, map, cond, length}
use Rattle.tasklist.specs.TaskList.{body_of}
use Rattle.semantics.specs.Run.{Run, Context, task_of, initial}
use Rattle.semantics.specs.Plan.{at_end, start, step, end}
use Rattle.semantics.specs.Call.{Call, Outcome, refuse, accept, decide, after}

-- the tasks that a call makes, foremost first
abbrev pub made_by : Outcome → List ℕ
made_by (refuse k) = []
made_by (accept e) = map (λ x. x.number) e.made

abbrev pub start_of : ℕ → Call
start_of n = record { action = start; task = n }

abbrev pub step_of : ℕ → Call
step_of n = record { action = step; task = n }

abbrev pub end_of : ℕ → Call
end_of n = record { action = end; task = n }

-- tasks run whole, one after another
unfoldable pub run_each : (ℕ → Run → Run) → List ℕ → Run → Run
run_each whole [] r = r
run_each whole (k ∷ ks) r = run_each whole ks (whole k r)

-- "at each spawn the child is run whole before the next step": one step of task n, then the tasks that it makes
unfoldable pub step_through : Context → (ℕ → Run → Run) → ℕ → Run → Run
step_through c whole n r = run_each whole (made_by (decide c r (step_of n))) (after c r (step_of n))

-- "its steps until it is at its end", at most so many
unfoldable pub steps_through : Context → (ℕ → Run → Run) → ℕ → ℕ → Run → Run
steps_through c whole n zero r = r
steps_through c whole n (suc left) r =
    let more = steps_through c whole n left (step_through c whole n r) in
    cond (at_end c (task_of r n)) r more

-- more steps than task n's body has instructions
unfoldable pub enough : Context → Run → ℕ → ℕ
enough c r n = suc (length (body_of c.list (task_of r n).body))

-- "A job is run whole thus: its start, its steps until it is at its end, and at each spawn the child is run whole before
-- the next step; last its end call." A child has a higher body: `bodies` more are left.
unfoldable pub run_whole : Context → ℕ → ℕ → Run → Run
run_whole c zero n r = r
run_whole c (suc bodies) n r =
    after c (steps_through c (run_whole c bodies) n (enough c r n) (after c r (start_of n))) (end_of n)

-- "from a fresh run in one order: job 0 is run whole"
unfoldable pub sequential : Context → List ℕ → Run
sequential c memory = run_whole c (length c.list.bodies) 0 (initial c memory)

-- The calls of the sequential run, in the same shape.
unfoldable pub trace_each : (ℕ → Run → List Call) → (ℕ → Run → Run) → List ℕ → Run → List Call
trace_each calls whole [] r = []
trace_each calls whole (k ∷ ks) r = calls k r ++ trace_each calls whole ks (whole k r)

unfoldable pub trace_steps : Context → (ℕ → Run → List Call) → (ℕ → Run → Run) → ℕ → ℕ → Run → List Call
trace_steps c calls whole n zero r = []
trace_steps c calls whole n (suc left) r =
    let made = trace_each calls whole (made_by (decide c r (step_of n))) (after c r (step_of n)) in
    let more = trace_steps c calls whole n left (step_through c whole n r) in
    let steps = step_of n ∷ (made ++ more) in
    cond (at_end c (task_of r n)) [] steps

unfoldable pub trace_whole : Context → ℕ → ℕ → Run → List Call
trace_whole c zero n r = []
trace_whole c (suc bodies) n r =
    let steps = trace_steps c (trace_whole c bodies) (run_whole c bodies) n (enough c r n) (after c r (start_of n)) in
    start_of n ∷ (steps ++ (end_of n ∷ []))

unfoldable pub trace : Context → List ℕ → List Call
trace c memory = trace_whole c (length c.list.bodies) 0 (initial c memory)
