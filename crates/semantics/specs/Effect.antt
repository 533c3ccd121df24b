-- What a plan and its effect are, and the effects that calls have. Document 01, "Calls".
use Rattle.std.specs.Prelude.{ℕ, suc, ◌+◌, List, [], ◌∷◌, Bool, true, false, set}
use Rattle.semantics.specs.Run.{Task}
use Rattle.semantics.specs.Access.{Access}

-- What a call does to the memory: nothing, a value put into a location, a value added to it.
pub data Edit : Type 0 where
  keep : Edit
  put : ℕ → ℕ → Edit
  add : ℕ → ℕ → Edit

-- A task's number and its record.
pub record Numbered : Type 0 where
  pub number : ℕ
  pub task : Task

-- What an accepted call does: its task's new record (the weight is added when it is carried out), the edit of the
-- memory, the tasks made, whether the task leaves the order, the call's weight.
pub record Effect : Type 0 where
  pub task : Task
  pub edit : Edit
  pub made : List Numbered
  pub leaves : Bool
  pub weight : ℕ

-- A refusal that needs no look at others; an effect behind accesses that must be allowed; or an effect of the value at
-- one location that is to be read.
pub data Plan : Type 0 where
  stop : ℕ → Plan
  go : List Access → Effect → Plan
  fetch : ℕ → (ℕ → Effect) → Plan

-- an effect on the task's own record alone
abbrev pub own : ℕ → Task → Effect
own w t = record { task = t; edit = keep; made = []; leaves = false; weight = w }

-- "its state becomes"
abbrev pub in_state : ℕ → Task → Task
in_state s t = record t { state = s }

-- "place rises by 1 plus what a skip passes over, instructions done by 1": on by k, with these registers
abbrev pub moved : ℕ → List ℕ → Task → Task
moved k registers t =
    record t {
      pc = t.pc + k;
      registers = registers;
      steps = suc t.steps;
    }

-- "done rises, but no place, register, entry or other job changes, and the job is then at its end"
abbrev pub faulted : ℕ → Task → Task
faulted k t =
    record t {
      steps = suc t.steps;
      fault = k;
    }

-- one step on, with a value in register a
abbrev pub assigned : ℕ → ℕ → Task → Task
assigned a v t = moved 1 (set t.registers a v) t

-- "A faulting step is accepted, counts and weighs"
abbrev pub fails : ℕ → ℕ → Task → Plan
fails w k t = go [] (own w (faulted k t))

-- one step on, where all accesses are allowed
abbrev pub passes : ℕ → List Access → Task → Plan
passes w gs t = go gs (own w (moved 1 t.registers t))

-- one step on, with a value stored
abbrev pub storing : ℕ → ℕ → ℕ → Task → Effect
storing w place v t = record { task = moved 1 t.registers t; edit = put place v; made = []; leaves = false; weight = w }

-- one step on, with a value added to a location
abbrev pub adding : ℕ → ℕ → ℕ → Task → Effect
adding w place v t = record { task = moved 1 t.registers t; edit = add place v; made = []; leaves = false; weight = w }

-- "the new job waiting, at place 0, with its sheet, its footprint's modes and a copy of the registers"
abbrev pub child : ℕ → List ℕ → Task → Task
child s modes t =
    record {
      state = 1;
      body = s;
      pc = 0;
      registers = t.registers;
      modes = modes;
      steps = 0;
      fault = 0;
      weight = 0;
    }

-- tasks with their numbers, so far apart; request 104: "child i starts at i × count(a) within that block"
unfoldable pub numbered_from : ℕ → ℕ → List Task → List Numbered
numbered_from first apart [] = []
numbered_from first apart (t ∷ ts) = record { number = first; task = t } ∷ numbered_from (first + apart) apart ts

-- one step on, with these tasks made
abbrev pub making : ℕ → List Numbered → Task → Effect
making w made t = record { task = moved 1 t.registers t; edit = keep; made = made; leaves = false; weight = w }

-- "the job leaves the order and its state becomes 3"
abbrev pub leaving : ℕ → Task → Effect
leaving w t = record { task = in_state 3 t; edit = keep; made = []; leaves = true; weight = w }
