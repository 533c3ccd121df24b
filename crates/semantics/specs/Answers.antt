-- What the declared types mean: document 01's numbers for the answers, and the model's record for a declared one.
use Rattle.std.specs.Prelude.{ℕ, List, Result, Ok, Err}
use Rattle.semantics.specs.declared.Record.{Record}
use Rattle.semantics.specs.declared.CallRefusal.{CallRefusal}
use Rattle.semantics.specs.declared.CallRefusal.TheVariants.{Number, Absent, Started, BehindWriter, BehindOthers, Waiting, Finished, Unfinished, Location, Short}
use Rattle.semantics.specs.declared.Fault.{Fault}
use Rattle.semantics.specs.declared.Fault.TheVariants.{Outside, Mode, TooLarge, ZeroDivisor}
use Rattle.semantics.specs.Run.{Task}
use Rattle.semantics.specs.Call.{Outcome, refuse, accept}

abbrev pub refusal_number : CallRefusal → ℕ
refusal_number Number = 9
refusal_number Absent = 10
refusal_number Started = 11
refusal_number BehindWriter = 19
refusal_number BehindOthers = 20
refusal_number Waiting = 13
refusal_number Finished = 14
refusal_number Unfinished = 15
refusal_number Location = 16
refusal_number Short = 17

-- "0 or the refusal"
abbrev pub answer_number : Result Unit CallRefusal → ℕ
answer_number (Ok done) = 0
answer_number (Err k) = refusal_number k

-- document 01's numbers of the faults; request 108: "Fault 4 is a result above 2^32 − 1; fault 5 .. is a zero Rc"
abbrev pub fault_number : Fault → ℕ
fault_number Outside = 1
fault_number Mode = 2
fault_number TooLarge = 4
fault_number ZeroDivisor = 5

-- the same of the model's outcome
unfoldable pub outcome_number : Outcome → ℕ
outcome_number (refuse k) = k
outcome_number (accept e) = 0

-- a declared record with its row of the mode table
abbrev pub task_from : Record → List ℕ → Task
task_from t modes =
    record {
      state = t.state;
      body = t.body;
      pc = t.pc;
      registers = t.registers;
      modes = modes;
      steps = t.steps;
      fault = t.fault;
      weight = t.weight;
    }
