-- What a call makes of a task's record, as 32 bits hold it.
use Rattle.std.specs.Prelude.{ℕ, ◌+◌, ◌%◌, ◌^◌, slice_set}
use Rattle.semantics.specs.declared.Record.{Record}
use Rattle.grants.specs.Grants.{child_registers}

-- a record with another state
abbrev pub with_state : ℕ → Record → Record
with_state s t = record t { state = s }

-- "place rises by 1 plus what a skip passes over, instructions done by 1", as 32 bits hold them
abbrev pub passed : ℕ → Record → Record
passed over t =
    record t {
      pc = (t.pc + (1 + over)) % 2 ^ 32;
      steps = (t.steps + 1) % 2 ^ 32;
    }

-- "done rises, but no place, register, entry or other job changes", as 32 bits hold it
abbrev pub failed : ℕ → Record → Record
failed k t =
    record t {
      steps = (t.steps + 1) % 2 ^ 32;
      fault = k;
    }

-- a record with a value in a register
abbrev pub holding : ℕ → ℕ → Record → Record
holding a v t = record t { registers = slice_set t.registers a v }

-- "the new job waiting, at place 0, with its sheet .. and a copy of the registers"
abbrev pub newborn : ℕ → Record → Record
newborn s t =
    record t {
      state = 1;
      body = s;
      pc = 0;
      steps = 0;
      fault = 0;
      weight = 0;
    }

-- request 104: "Child i has R0 = i": the record of child i, by that of the foremost, child 0
abbrev pub child_record : ℕ → Record → Record
child_record i t = record t { registers = child_registers i t.registers }
