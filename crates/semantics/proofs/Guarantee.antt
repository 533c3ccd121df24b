-- Demand 3, in one piece: for every accepted list, every memory and every list of calls, refused ones included. It holds
-- under any weights, and whatever the memory's length. Assumes nothing.
use Prim.Native.Nat.{ℕ, ◌<◌, ◌≤◌}
use mathlib.Core.Path.{◌≡◌, ◌∙◌}
use mathlib.Core.List.{List, []}
use mathlib.Core.Option.{some}
use native.Mathlib.Omega.{arith}
use Rattle.tasklist.specs.Accepted.{Accepted}
use Rattle.semantics.specs.Run.{Run, Context, task_of, initial}
use Rattle.semantics.specs.Call.{Call, call, after_all, accepted_count, weight_sum}
use Rattle.semantics.specs.Sequential.{sequential}
use Rattle.semantics.proofs.Reached.{reach_calls, calls_counted, weight_summed, reach_ended, sequential_ahead, some_call, is_sequential}

-- What holds of the run r after a list of calls from the initial run.
pub record Guarantee (c : Context) (memory : List ℕ) (calls : List Call) (r : Run) : Type 0 where
  -- "If a job is left, some start, step or end would be accepted."
  pub progress : (r.order ≡ [] → ⊥) → (b : Call) × (b.task < 128) × (r' : Run) × (call c r b ≡ some r')
  -- "Every job that has ended has exactly the record that the hand run of that job list and library gives it."
  pub ended : (n : ℕ) → (task_of r n).state ≡ 3 → task_of r n ≡ task_of (sequential c memory) n
  -- "The run's call count is the number of calls accepted"; "its weight the sum of theirs"
  pub counted : r.calls ≡ accepted_count c (initial c memory) calls
  pub weighed : r.weight ≡ weight_sum c (initial c memory) calls
  -- "and never more than the hand run's"
  pub bounded : r.calls ≤ (sequential c memory).calls
  -- "If no job is left, every entry, every job's record, the call count and the weight are equal to the hand run's."
  pub whole : r.order ≡ [] → r ≡ sequential c memory

pub guarantee :
    (c : Context) → Accepted c.list → (memory : List ℕ) (calls : List Call)
    → Guarantee c memory calls (after_all c (initial c memory) calls)
guarantee c ok memory calls =
    let r = after_all c (initial c memory) calls in
    let lead = sequential_ahead c ok memory calls in
    record {
      progress = some_call c ok memory lead.0 r lead.1;
      ended = λ n s. reach_ended c ok (sequential c memory) lead.0 r n lead.2 lead.1 s;
      counted = calls_counted c calls (initial c memory) ∙ unfold initial in omega arith;
      weighed = weight_summed c calls (initial c memory) ∙ unfold initial in omega arith;
      bounded = omega (arith, reach_calls c (sequential c memory) lead.0 r lead.1);
      whole = is_sequential c ok memory lead.0 r lead.1;
    }
