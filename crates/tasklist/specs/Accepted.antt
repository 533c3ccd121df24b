-- What the layer above may rely on of an accepted list.
use Rattle.std.specs.Prelude.{ℕ, ◌≤◌, ◌<◌, ◌≡◌, true, length, get_or}
use Rattle.tasklist.specs.declared.Line.{Line}
use Rattle.tasklist.specs.declared.Scope.{Scope}
use Rattle.tasklist.specs.TaskList.{TaskList, body_of, footprint_of, instruction_of, count_body, task_count}
use Rattle.tasklist.specs.Decode.{line_ok, instruction_ok}

-- what stands where no line is
abbrev pub blank_line : Line
blank_line = record { kind = 0; value = 0 }

-- what the instruction at place i of body s is tested against
abbrev pub scope_of : TaskList → ℕ → ℕ → Scope
scope_of l s i =
    record {
      footprints = length l.footprints;
      bodies = length l.bodies;
      body = s;
      size = length (body_of l s);
      place = i;
    }

pub record Accepted (l : TaskList) : Type 0 where
  pub some_location : 1 ≤ l.locations
  pub most_locations : l.locations ≤ 64
  pub most_footprints : length l.footprints ≤ 32
  pub some_body : 1 ≤ length l.bodies
  pub most_bodies : length l.bodies ≤ 32
  pub most_lines : (f : ℕ) → length (footprint_of l f) ≤ 8
  pub most_instructions : (s : ℕ) → length (body_of l s) ≤ 32
  -- a fixed location is below C, a register at most 3
  pub lines : (f j : ℕ) → j < length (footprint_of l f) → line_ok l.locations (get_or (footprint_of l f) j blank_line) ≡ true
  -- registers at most 3, skips within the body, spawns of a higher body and of a footprint of the list
  pub instructions : (s i : ℕ) → i < length (body_of l s) → instruction_ok (scope_of l s i) (instruction_of l s i) ≡ true
  -- "count(s) is 1 plus count(a) for each spawn in sheet s"
  pub count_law : (s : ℕ) → task_count l s ≡ count_body (task_count l) (body_of l s)
  pub most_tasks : task_count l 0 ≤ 128
