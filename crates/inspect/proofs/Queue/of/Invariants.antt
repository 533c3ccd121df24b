use Rattle.std.proofs.Common.{◌≡◌, ◌≤◌, length, take}
use Rattle.tasklist.specs.Encode.{joined}
use Rattle.runtime.specs.Parts.{shown_at}
use Rattle.inspect.proofs.Queue.of.Given as goal

abbrev pub invariant-loop-task : goal.invariant-loop-task
invariant-loop-task l =
    (l.count ≤ l.task-index) × (length l.places ≡ 128) × (take l.count l.places ≡ joined (shown_at l.run l.location) (take l.task-index l.task-items))
