-- What a worked case of document 01 says, as a test that computes.
use Rattle.std.specs.Prelude.{ℕ, zero, suc, List, [], ◌∷◌, Bool, true, false, not, ◌&&◌, ◌||◌, eqb}
use Rattle.tasklist.specs.TaskList.{TaskList, task_count}
use Rattle.tasklist.specs.Decode.{Decoded, refused, accepted, decode}
use Rattle.semantics.specs.Run.{Task, Run, Context, context, fixed_weights, task_of, initial}
use Rattle.semantics.specs.Access.{Access, every}
use Rattle.semantics.specs.Call.{Call, decide, after, after_all}
use Rattle.semantics.specs.Search.{search, hold_number}
use Rattle.semantics.specs.Sequential.{sequential}
use Rattle.semantics.specs.Isolation.{Lone, hand_run, inside, kept}
use Rattle.semantics.specs.Turns.{Ply, turn, other, move, after_ply, after_play, turns, others_accepted, ends_with}
use Rattle.semantics.specs.Operations.{Asked, denies, gives, open_asked, sequential_asked, queue_places}
use Rattle.semantics.specs.Answers.{outcome_number}

-- A fact about a run.
pub data Fact : Type 0 where
  memory_is : List ℕ → Fact
  order_is : List ℕ → Fact
  -- the places that queue writes for a location
  queue_is : ℕ → List ℕ → Fact
  -- a task's state
  state_is : ℕ → ℕ → Fact
  -- a task's fault
  fault_is : ℕ → ℕ → Fact
  -- the search of a task for these accesses: the number of its hold, 0 for none, and how many tasks it looked at
  search_is : ℕ → List Access → ℕ → ℕ → Fact
  -- a task's registers
  registers_are : ℕ → List ℕ → Fact
  calls_are : ℕ → Fact
  weight_is : ℕ → Fact

-- Runs are under today's weights where none are given.
pub data Case : Type 0 where
  -- the facts that hold after the sequential run of a list and a memory
  by_hand : TaskList → List ℕ → List Fact → Case
  -- the facts that hold after the sequential run of these bytes, a memory and a table of weights
  by_hand_under : List ℕ → List ℕ → List ℕ → List Fact → Case
  -- the facts that hold after the hand run of a task alone
  by_hand_alone : TaskList → Lone → List ℕ → List Fact → Case
  -- request 109's words on the hand runs of a task alone over two memories
  by_two_hands : TaskList → Lone → List ℕ → List ℕ → Case
  -- what calls from the initial run answer, each 0 or its refusal, and the facts that hold after them
  by_calls : TaskList → List ℕ → List Call → List ℕ → List Fact → Case
  -- what the turns and calls of a play from the initial run answer, and the facts that hold after them
  by_play : TaskList → List ℕ → List Ply → List ℕ → List Fact → Case
  -- how many turns a play from the initial run has, and how many accepted calls of the other side
  play_has : TaskList → List ℕ → List Ply → ℕ → ℕ → Case
  -- the sequential run ends this task with its call of this number, counted from 1
  ends_by_hand : TaskList → List ℕ → ℕ → ℕ → Case
  -- these bytes are a list of so many tasks
  tasks_in : List ℕ → ℕ → Case
  -- these bytes are refused with this number
  refused_with : List ℕ → ℕ → Case
  -- what opening these bytes with a memory and a table of weights answers, 0 or its refusal
  opens_with : List ℕ → List ℕ → List ℕ → ℕ → Case

unfoldable pub same : List ℕ → List ℕ → Bool
same [] [] = true
same [] (y ∷ ys) = false
same (x ∷ xs) [] = false
same (x ∷ xs) (y ∷ ys) = eqb x y && same xs ys

unfoldable pub is_so : Run → Fact → Bool
is_so r (memory_is m) = same r.memory m
is_so r (order_is o) = same r.order o
is_so r (queue_is a q) = same (queue_places r a) q
is_so r (state_is n k) = eqb (task_of r n).state k
is_so r (fault_is n k) = eqb (task_of r n).fault k
is_so r (search_is n gs k looked) = let f = search r n gs in eqb (hold_number f) k && eqb f.looked looked
is_so r (registers_are n vs) = same (task_of r n).registers vs
is_so r (calls_are k) = eqb r.calls k
is_so r (weight_is w) = eqb r.weight w

unfoldable pub same_record : Task → Task → Bool
same_record t u =
    eqb t.state u.state && eqb t.body u.body && eqb t.pc u.pc && same t.registers u.registers &&
    same t.modes u.modes && eqb t.steps u.steps && eqb t.fault u.fault && eqb t.weight u.weight

-- so many records from number n on
unfoldable pub same_records : Run → Run → ℕ → ℕ → Bool
same_records r r' n zero = true
same_records r r' n (suc left) = same_record (task_of r n) (task_of r' n) && same_records r r' (suc n) left

-- the entries from location a on are alike where a test says so
unfoldable pub alike_from : (ℕ → Bool) → ℕ → List ℕ → List ℕ → Bool
alike_from test a [] [] = true
alike_from test a [] (y ∷ ys) = false
alike_from test a (x ∷ xs) [] = false
alike_from test a (x ∷ xs) (y ∷ ys) = (not (test a) || eqb x y) && alike_from test (suc a) xs ys

-- "entries alike inside that footprint", and then what request 109 says of the two runs that are left
unfoldable pub isolates : Lone → ℕ → List ℕ → List ℕ → Run → Run → Bool
isolates j count m m' r r' =
    alike_from (inside j) 0 m m' && same_records r r' j.number count &&
    alike_from (inside j) 0 r.memory r'.memory && alike_from (kept j) 0 r.memory m &&
    alike_from (kept j) 0 r'.memory m'

-- the answers of calls, one after another
unfoldable pub answers : Context → Run → List Call → List ℕ
answers c r [] = []
answers c r (b ∷ bs) = outcome_number (decide c r b) ∷ answers c (after c r b) bs

unfoldable pub ply_answer : Context → Run → Ply → ℕ
ply_answer c r turn = outcome_number (move c r)
ply_answer c r (other b) = outcome_number (decide c r b)

unfoldable pub play_answers : Context → Run → List Ply → List ℕ
play_answers c r [] = []
play_answers c r (p ∷ ps) = ply_answer c r p ∷ play_answers c (after_ply c r p) ps

unfoldable pub has_tasks : ℕ → Decoded → Bool
has_tasks n (refused k) = false
has_tasks n (accepted l) = eqb (task_count l 0) n

unfoldable pub is_refused : ℕ → Decoded → Bool
is_refused n (refused k) = eqb k n
is_refused n (accepted l) = false

unfoldable pub all_so : List Fact → Asked Run → Bool
all_so facts (denies k) = false
all_so facts (gives r) = every (is_so r) facts

unfoldable pub asked_number : {A : Type 0} → Asked A → ℕ
asked_number (denies k) = k
asked_number (gives a) = 0

unfoldable pub holds : Case → Bool
holds (by_hand l m facts) = every (is_so (sequential (context l fixed_weights) m)) facts
holds (by_hand_under bytes m weights facts) = all_so facts (sequential_asked bytes m weights)
holds (by_hand_alone l j m facts) = every (is_so (hand_run (context l fixed_weights) j m)) facts
holds (by_two_hands l j m m') =
    let c = context l fixed_weights in
    isolates j (task_count l j.body) m m' (hand_run c j m) (hand_run c j m')
holds (by_calls l m bs ks facts) =
    let c = context l fixed_weights in
    let r = initial c m in
    same (answers c r bs) ks && every (is_so (after_all c r bs)) facts
holds (by_play l m ps ks facts) =
    let c = context l fixed_weights in
    let r = initial c m in
    same (play_answers c r ps) ks && every (is_so (after_play c r ps)) facts
holds (play_has l m ps k others) =
    let c = context l fixed_weights in eqb (turns ps) k && eqb (others_accepted c (initial c m) ps) others
holds (ends_by_hand l m n k) = ends_with (context l fixed_weights) m n k
holds (tasks_in bytes n) = has_tasks n (decode bytes)
holds (refused_with bytes k) = is_refused k (decode bytes)
holds (opens_with bytes memory weights k) = eqb (asked_number (open_asked bytes memory weights)) k
