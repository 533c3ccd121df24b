-- Laws of the view, of a run as of its parts. Assumes nothing.
use Rattle.std.proofs.Common.{◌≡◌, ℕ, ◌<◌, length, get_or}
use native.Mathlib.Nat.{ℕ_set}
use mathlib.Core.HLevel.{is_prop→PathP}
use Rattle.semantics.specs.Run.{mode_of, task_of}
use Rattle.semantics.specs.Answers.{task_from}
use Rattle.arrays.specs.Rows.{row}
use Rattle.plans.specs.View.{blank_record}
use Rattle.plans.proofs.ViewLaws as Of
use Rattle.runtime.specs.declared.Run.{Run}
use Rattle.runtime.specs.View.{parts_of, model, context_of}

-- the same list and the same weights
pub same_context : (a b : Run) → a.tables ≡ b.tables → a.weights ≡ b.weights → context_of a ≡ context_of b
same_context a b t w = Of.same_context (parts_of a) (parts_of b) t w

-- the record of task n
pub task_is :
    (run : Run) (n : ℕ) → n < length run.records
    → task_of (model run) n ≡ task_from (get_or run.records n blank_record) (row n run.modes)
task_is run n h = Of.task_is (parts_of run) n h

-- the mode of any number at any location
pub mode_is :
    (run : Run) (n a : ℕ) → length run.records ≡ 128 → length run.modes ≡ 8192
    → get_or (row n run.modes) a 0 ≡ mode_of (task_of (model run) n) a
mode_is run n a r m = Of.mode_is (parts_of run) n a r m

-- two runs of the same parts are one
pub same_run : (a b : Run) → parts_of a ≡ parts_of b → a ≡ b
same_run a b q =
    λ i. record {
      tables = (q i).tables;
      memory = (q i).memory;
      records = (q i).records;
      modes = (q i).modes;
      order =
          record {
            places = (q i).order;
            left = (q i).left;
            whole = is_prop→PathP (λ j. length (q j).order ≡ 128) (λ j. ℕ_set (length (q j).order) 128) a.order.whole b.order.whole i;
          };
      calls = (q i).calls;
      weight = (q i).weight;
      weights = (q i).weights;
    }
