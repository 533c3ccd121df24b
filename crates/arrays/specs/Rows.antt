-- Rows of the table of modes: 64 places for each task.
use Rattle.std.specs.Prelude.{ℕ, ◌+◌, ◌*◌, List, ◌++◌, take, drop}

-- the row of a task
unfoldable pub row : ℕ → List ℕ → List ℕ
row k flat = take 64 (drop (64 * k) flat)

-- the table with another row of a task
unfoldable pub with : ℕ → List ℕ → List ℕ → List ℕ
with k new flat = take (64 * k) flat ++ new ++ drop (64 * k + 64) flat
