-- What a task that is run alone can depend on: document 02, request 109.
use Rattle.std.specs.Prelude.{ℕ, ◌+◌, ◌≤◌, ◌<◌, ◌≡◌, List, [], ◌∷◌, Bool, true, not, ◌||◌, length, get_or, set, replicate, eqb}
use Rattle.tasklist.specs.TaskList.{task_count}
use Rattle.tasklist.specs.Accepted.{Accepted}
use Rattle.semantics.specs.Run.{Task, Run, Context, never, task_of}
use Rattle.semantics.specs.Sequential.{run_whole}

-- What a task is begun with: "one sheet", "the same job number .., registers, footprint". The footprint is the modes of its
-- entries, any.
pub record Lone : Type 0 where
  pub number : ℕ
  pub body : ℕ
  pub registers : List ℕ
  pub modes : List ℕ

-- its first record: waiting, at place 0, nothing done, no fault, weight 0
unfoldable pub first_record : Lone → Task
first_record j =
    record {
      state = 1;
      body = j.body;
      pc = 0;
      registers = j.registers;
      modes = j.modes;
      steps = 0;
      fault = 0;
      weight = 0;
    }

-- "each begun with that job alone in the order and all other records zero"; calls and weight 0
unfoldable pub alone : Lone → List ℕ → Run
alone j memory =
    record {
      memory = memory;
      tasks = set (replicate 128 never) j.number (first_record j);
      order = j.number ∷ [];
      calls = 0;
      weight = 0;
    }

-- "hand runs of one sheet": the task is run whole, and so is each that it makes
unfoldable pub hand_run : Context → Lone → List ℕ → Run
hand_run c j memory = run_whole c (length c.list.bodies) j.number (alone j memory)

-- "that job's block of numbers" is from its own up to here
abbrev pub block_end : Context → Lone → ℕ
block_end c j = j.number + task_count c.list j.body

-- "inside the footprint": an entry in any mode, sum as well
unfoldable pub inside : Lone → ℕ → Bool
inside j a = not (eqb (get_or j.modes a 0) 0)

-- "Outside it, and where the mode is read"
unfoldable pub kept : Lone → ℕ → Bool
kept j a = not (inside j a) || eqb (get_or j.modes a 0) 1

-- the entries of two memories are alike where a test says so
abbrev pub AlikeAt : (ℕ → Bool) → List ℕ → List ℕ → Type 0
AlikeAt test m m' = (a : ℕ) → test a ≡ true → get_or m a 0 ≡ get_or m' a 0

-- The two hand runs: same list and weights (the context), same task, each over its own memory.
pub record Comparable (c : Context) (j : Lone) (m m' : List ℕ) : Type 0 where
  -- "of an accepted list"
  pub accepted : Accepted c.list
  -- "its block ending at 127 or below"
  pub block : block_end c j ≤ 128
  -- each memory has an entry for each location
  pub sizes : length m ≡ length m'
  -- "over entries alike inside that footprint"
  pub alike : AlikeAt (inside j) m m'

-- What holds of them (law `isolation`, proofs/Isolation.antt).
pub record Isolated (c : Context) (j : Lone) (m m' : List ℕ) : Type 0 where
  -- "They shall give the same records in that job's block of numbers"
  pub records :
      (k : ℕ) → j.number ≤ k → k < block_end c j → task_of (hand_run c j m) k ≡ task_of (hand_run c j m') k
  -- "and the same entries inside the footprint."
  pub entries : AlikeAt (inside j) (hand_run c j m).memory (hand_run c j m').memory
  -- "Outside it, and where the mode is read, each leaves the entries unchanged."
  pub first : AlikeAt (kept j) (hand_run c j m).memory m
  pub second : AlikeAt (kept j) (hand_run c j m').memory m'
