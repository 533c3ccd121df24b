-- What a run of the code stands for in the model, and which runs came from open, the sequential run or calls: as its parts do
-- (crate `plans`).
use Rattle.semantics.specs.Run.{Context}
use Rattle.semantics.specs.Run as Semantics
use Rattle.plans.specs.View.{Parts}
use Rattle.plans.specs.View as Of
use Rattle.runtime.specs.declared.Run.{Run}

-- the parts of a run: its fields, and those of its order
abbrev pub parts_of : Run → Parts
parts_of run =
    record {
      tables = run.tables;
      memory = run.memory;
      records = run.records;
      modes = run.modes;
      order = run.order.places;
      left = run.order.left;
      calls = run.calls;
      weight = run.weight;
      weights = run.weights;
    }

abbrev pub model : Run → Semantics.Run
model run = Of.model (parts_of run)

abbrev pub context_of : Run → Context
context_of run = Of.context_of (parts_of run)

-- "a run that came from open, from the hand run, or from calls on such a run"
abbrev pub SoundRun : Run → Type 0
SoundRun run = Of.SoundRun (parts_of run)
