-- A child's number by the counts of the tables, which are capped at 129.
use Rattle.std.specs.Prelude.{ℕ, ◌+◌, get_or, take}
use Rattle.tasklist.specs.declared.Tables.{Tables}
use Rattle.tasklist.specs.TaskList.{body_of, total, adds}
use Rattle.tasklist.specs.Tables.{list_of}

-- as the model's `child_number`, with the tables' counts (law `number_holds`, proofs/NumberLaws.antt)
unfoldable pub number_by : Tables → ℕ → ℕ → ℕ → ℕ
number_by t n body pc = n + 1 + total (adds (λ a. get_or t.counts a 1)) (take pc (body_of (list_of t) body))
