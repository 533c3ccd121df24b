-- The children that one step makes: how each sees the task that makes it, what they need and what they are given.
use Rattle.std.specs.Prelude.{ℕ, zero, suc, ◌+◌, ◌*◌, ◌-◌, ◌≤◌, ◌<◌, ◌≡◌, List, [], ◌∷◌}
use Rattle.tasklist.specs.declared.Line.{Line}
use Rattle.semantics.specs.Run.{Task}
use Rattle.semantics.specs.Footprint.{granted}
use Rattle.grants.specs.Grants.{child_registers, child_grant}
use Rattle.arrays.specs.Places.{insert_at}
use Rattle.arrays.specs.Rows.{with}

-- a task as child i sees it, by how the foremost sees it
abbrev pub seen_by : ℕ → Task → Task
seen_by i t = record t { registers = child_registers i t.registers }

-- as k children see it, from child i on
unfoldable pub seen_from : ℕ → ℕ → Task → List Task
seen_from i zero t = []
seen_from i (suc k) t = seen_by i t ∷ seen_from (suc i) k t

-- k numbers from the first on, so far apart
unfoldable pub numbers : ℕ → ℕ → ℕ → List ℕ
numbers first apart zero = []
numbers first apart (suc k) = first ∷ numbers (first + apart) apart k

-- so many children have a place in an order of `left` tasks and a number each, so far apart
pub record Fit (left child apart children : ℕ) : Type 0 where
  pub places : left + children ≤ 128
  pub near : (i : ℕ) → i < children → child + i * apart < 128

-- these are the rows that the children are given, and the last of them
pub record RowsOf (registers own : List ℕ) (ls : List Line) (last : List ℕ) (children : ℕ) (rows : ℕ → List ℕ) : Type 0 where
  pub each : (i : ℕ) → i < children → child_grant registers own ls i ≡ granted (rows i)
  pub hindmost : 0 < children → last ≡ rows (children - 1)

-- the first k children put at a place, the last of them first
unfoldable pub insert_all : ℕ → ℕ → ℕ → ℕ → List ℕ → List ℕ
insert_all at child apart zero xs = xs
insert_all at child apart (suc k) xs = insert_all at child apart k (insert_at at (child + k * apart) xs)

-- the table with the rows of the first k children, the last of them put first
unfoldable pub with_rows : ℕ → ℕ → (ℕ → List ℕ) → ℕ → List ℕ → List ℕ
with_rows child apart rows zero flat = flat
with_rows child apart rows (suc k) flat = with_rows child apart rows k (with (child + k * apart) (rows k) flat)
