-- What the functions on a run promise each other.
use Rattle.std.specs.Prelude.{◌≡◌, ℕ, ◌+◌, ◌-◌, ◌*◌, cond, List, [], ◌∷◌, ◌++◌, length, take, replicate, ◌==◌, slice_index}
use Rattle.tasklist.specs.declared.Tables.{Tables}
use Rattle.tasklist.specs.Encode.{joined}
use Rattle.semantics.specs.declared.Record.{Record}
use Rattle.arrays.specs.Places.{unended}
use Rattle.arrays.specs.Rows.{row}
use Rattle.records.specs.Records.{with_state}
use Rattle.plans.specs.View.{blank_record}
use Rattle.plans.specs.View as Of
use Rattle.runtime.specs.declared.Run.{Run}
use Rattle.runtime.specs.View.{parts_of}

abbrev pub record_of : Run → ℕ → Record
record_of run n = Of.record_of (parts_of run) n

-- "job 0 alone in the order, all other records zero, calls and weight 0": the code's run of these tables, this memory and these
-- weights
pub record InitialOf (t : Tables) (numbers weights : List ℕ) (r : Run) : Type 0 where
  pub tables : r.tables ≡ t
  pub memory : length r.memory ≡ 64
  pub held : take (length numbers) r.memory ≡ numbers
  pub records : r.records ≡ with_state 1 blank_record ∷ replicate 127 blank_record
  pub modes : r.modes ≡ replicate (length numbers) 2 ++ replicate (8192 - length numbers) 0
  pub order : r.order.places ≡ replicate 128 0
  pub left : r.order.left ≡ 1
  pub calls : r.calls ≡ 0
  pub weight : r.weight ≡ 0
  pub table : r.weights ≡ weights

-- "number + 256 × mode" of task k, nothing where its mode is 0
unfoldable pub shown : ℕ → ℕ → List ℕ
shown k mode = cond (mode == 0) [] ((k + 256 * mode) ∷ [])

-- what queue shows of task k
abbrev pub shown_at : Run → ℕ → ℕ → List ℕ
shown_at run location k = shown k (slice_index (row k run.modes) location)

-- what queue shows of the tasks in the order, front to back
abbrev pub all_shown : Run → ℕ → List ℕ
all_shown run location = joined (shown_at run location) (unended run.order)
