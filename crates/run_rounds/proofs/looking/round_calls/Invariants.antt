use Rattle.std.proofs.Common.{◌≡◌, length}
use Rattle.run_rounds.proofs.BatchLaws.{Found}
use Rattle.run_rounds.proofs.looking.round_calls.Given as goal

abbrev pub invariant-loop-task : goal.invariant-loop-task
invariant-loop-task l =
    Found l.fn.run l.workers l.batch.kinds l.batch.tasks l.batch.count l.task-index × (length l.batch.kinds ≡ 128) × (length l.batch.tasks ≡ 128)
