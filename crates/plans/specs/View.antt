-- What the parts of a run stand for in the model, and which came from open, the sequential run or calls.
use Rattle.std.specs.Prelude.{◌≡◌, ℕ, suc, ◌<◌, ◌≤◌, true, List, [], ◌∷◌, length, get_or, take, replicate, slice_index_or}
use Rattle.tasklist.specs.declared.Tables.{Tables}
use Rattle.tasklist.specs.Decode.{decode, accepted}
use Rattle.tasklist.specs.Tables.{Holds, list_of}
use Rattle.semantics.specs.declared.Record.{Record}
use Rattle.semantics.specs.Run.{Task, Context, context}
use Rattle.semantics.specs.Run as Semantics
use Rattle.semantics.specs.Access.{ahead}
use Rattle.semantics.specs.Call.{among}
use Rattle.semantics.specs.Answers.{task_from}
use Rattle.semantics.specs.Operations.{WeightsAccepted}
use Rattle.semantics.specs.Sound.{Sound}
use Rattle.arrays.specs.Rows.{row}

-- The parts of a run, which the struct `Run` of the crate `runtime` holds: the accepted list, the memory (the entries), a record
-- for each task with its row of 64 modes, the order, whose first `left` places are the unended tasks, front to back, calls
-- accepted and their weight, and the table of weights. The struct stands above, with its methods.
pub record Parts : Type 0 where
  pub tables : Tables
  pub memory : List ℕ
  pub records : List Record
  pub modes : List ℕ
  pub order : List ℕ
  pub left : ℕ
  pub calls : ℕ
  pub weight : ℕ
  pub weights : List ℕ

-- "The tables are whole arrays: 128 records, 8,192 modes": the tasks from number k on, each record with its row of modes
unfoldable pub tasks_from : ℕ → List Record → List ℕ → List Task
tasks_from k [] modes = []
tasks_from k (t ∷ ts) modes = task_from t (row k modes) ∷ tasks_from (suc k) ts modes

-- "An open run also has the accepted list, the entries, calls accepted, weight, and the order"
unfoldable pub model : Parts → Semantics.Run
model run =
    record {
      memory = take run.tables.locations run.memory;
      tasks = tasks_from 0 run.records run.modes;
      order = take run.left run.order;
      calls = run.calls;
      weight = run.weight;
    }

-- the run's accepted list and its table of weights
abbrev pub context_of : Parts → Context
context_of run = context (list_of run.tables) run.weights

-- "a run that came from open, from the hand run, or from calls on such a run": open's promise and those of the calls say
-- it of the run that they give.
pub record SoundRun (run : Parts) : Type 0 where
  -- the list that was accepted
  pub bytes : List ℕ
  pub list : decode bytes ≡ accepted (list_of run.tables)
  pub tables : Holds run.tables (list_of run.tables)
  -- the arrays are whole
  pub memory : length run.memory ≡ 64
  pub records : length run.records ≡ 128
  pub modes : length run.modes ≡ 8192
  pub order : length run.order ≡ 128
  pub left : run.left ≤ 128
  -- the table that was accepted
  pub weights : WeightsAccepted run.weights
  -- bounds of the records, the memory and the counters; no call weighs more than 16 × 1000
  pub sound : Sound (context_of run) 16000 (model run)

-- "Never made: all zero.", but for the modes
unfoldable pub blank_record : Record
blank_record =
    record {
      state = 0;
      body = 0;
      pc = 0;
      registers = replicate 4 0;
      steps = 0;
      fault = 0;
      weight = 0;
    }

-- what stands past the end of the records
abbrev pub no_record : Record
no_record = record { state = 0; body = 0; pc = 0; registers = []; steps = 0; fault = 0; weight = 0 }

abbrev pub record_of : Parts → ℕ → Record
record_of run n = slice_index_or run.records n no_record

-- task n stands at this place of the order
pub record Placed (run : Parts) (n place : ℕ) : Type 0 where
  pub within : place < run.left
  pub here : get_or (model run).order place 0 ≡ n
  pub listed : among n (model run).order ≡ true
  pub ahead_of : ahead n (model run).order ≡ take place run.order
