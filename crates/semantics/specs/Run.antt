-- What a run holds: document 01, "Jobs, order and queues".
use Rattle.std.specs.Prelude.{ℕ, ◌+◌, ◌-◌, List, [], ◌∷◌, ◌++◌, Bool, ◌&&◌, get_or, replicate, leb}
use Rattle.tasklist.specs.TaskList.{TaskList}

-- "A record has: state (0 never made, 1 waiting, 2 started, 3 ended), sheet, place, four registers, a mode per entry
-- (0 none, 1 read, 2 write; always 0 from C to 63), instructions done, fault, weight." Request 107: "Add mode 3, sum"
pub record Task : Type 0 where
  pub state : ℕ
  pub body : ℕ
  pub pc : ℕ
  pub registers : List ℕ
  pub modes : List ℕ
  pub steps : ℕ
  pub fault : ℕ
  pub weight : ℕ

-- a task's mode at a location
abbrev pub mode_of : Task → ℕ → ℕ
mode_of t a = get_or t.modes a 0

abbrev pub register : Task → ℕ → ℕ
register t a = get_or t.registers a 0

unfoldable pub no_modes : List ℕ
no_modes = replicate 64 0

-- "Never made: all zero."
unfoldable pub never : Task
never =
    record {
      state = 0;
      body = 0;
      pc = 0;
      registers = 0 ∷ 0 ∷ 0 ∷ 0 ∷ [];
      modes = no_modes;
      steps = 0;
      fault = 0;
      weight = 0;
    }

-- "An open run also has the accepted list, the entries, calls accepted, weight, and the order: unended jobs, front to
-- back". The accepted list is the context's.
pub record Run : Type 0 where
  pub memory : List ℕ
  pub tasks : List Task
  pub order : List ℕ
  pub calls : ℕ
  pub weight : ℕ

abbrev pub task_of : Run → ℕ → Task
task_of r n = get_or r.tasks n never

-- What every call of a run is made under: the accepted list, and the weights in the order start, end, codes.
pub record Context : Type 0 where
  pub list : TaskList
  pub weights : List ℕ

-- "start 5, end 2, codes 0 to 8: 1, 1, 1, 1, 3, 4, 1, 8, 1"; request 104: 8 for each child of a fan; request 105: "Coordinator
-- and preview pass today's numbers"; request 107: 4 for a sum; request 108: codes 11 and 12 "weigh 1 with
-- the coordinator"
unfoldable pub fixed_weights : List ℕ
fixed_weights = 5 ∷ 2 ∷ 1 ∷ 1 ∷ 1 ∷ 1 ∷ 3 ∷ 4 ∷ 1 ∷ 8 ∷ 1 ∷ 8 ∷ 4 ∷ 1 ∷ 1 ∷ []

-- Request 105: "a lent table of 12 numbers of 16 bits: start, end, then codes 0 to 9, code 9's per child"; "Later codes lengthen
-- it by one each.": codes 10 to 12 make it 15
unfoldable pub weight_places : ℕ
weight_places = 15

-- 22: "a number not in 1 to 1000"
unfoldable pub is_weight : ℕ → Bool
is_weight w = leb 1 w && leb w 1000

abbrev pub context : TaskList → List ℕ → Context
context l weights = record { list = l; weights = weights }

-- the weight at a place of the table
unfoldable pub weight_of : Context → ℕ → ℕ
weight_of c place = get_or c.weights place 0

abbrev pub start_weight : Context → ℕ
start_weight c = weight_of c 0

abbrev pub end_weight : Context → ℕ
end_weight c = weight_of c 1

abbrev pub code_weight : Context → ℕ → ℕ
code_weight c code = weight_of c (code + 2)

-- "every entry in mode write", and mode none from C to 63
unfoldable pub root_modes : ℕ → List ℕ
root_modes locations = replicate locations 2 ++ replicate (64 - locations) 0

-- "Job 0 runs sheet 0 with zero registers, every entry in mode write."
unfoldable pub root : Context → Task
root c =
    record {
      state = 1;
      body = 0;
      pc = 0;
      registers = 0 ∷ 0 ∷ 0 ∷ 0 ∷ [];
      modes = root_modes c.list.locations;
      steps = 0;
      fault = 0;
      weight = 0;
    }

-- "A fresh run": "the library's numbers as the entries, job 0 alone in the order, all other records zero, calls and
-- weight 0"
unfoldable pub initial : Context → List ℕ → Run
initial c memory =
    record {
      memory = memory;
      tasks = root c ∷ replicate 127 never;
      order = 0 ∷ [];
      calls = 0;
      weight = 0;
    }
