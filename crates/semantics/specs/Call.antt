-- The second and third stage of a call: it is settled by a look at the tasks ahead, then carried out. Document 01, "Calls"
-- and "Refused, by operation".
use Rattle.std.specs.Prelude.{ℕ, suc, ◌+◌, List, [], ◌∷◌, ◌++◌, map, Bool, true, false, cond, ◌||◌, get_or, set, ltb, eqb}
use Rattle.std.proofs.Math.Option.{Option, none, some}
use Rattle.semantics.specs.Run.{Task, Run, Context, task_of}
use Rattle.semantics.specs.Access.{Access, reads, every, any, behind_writer, allowed}
use Rattle.semantics.specs.Effect.{Edit, keep, put, add, Numbered, Effect, Plan, stop, go, fetch}
use Rattle.semantics.specs.Plan.{wrap, Action, plan}

-- "The calls of demand 3 are start, step and end, each with any job number"
pub record Call : Type 0 where
  pub action : Action
  pub task : ℕ

pub data Outcome : Type 0 where
  refuse : ℕ → Outcome
  accept : Effect → Outcome

-- The number of a hold on these accesses of task n. Request 102: "19 where a job of mode write is ahead in one of these
-- queues, 20 for any other hold"
unfoldable pub hold : Run → ℕ → List Access → ℕ
hold r n gs = cond (any (λ g. behind_writer r n g.location) gs) 19 20

-- accepted where all these accesses are allowed, else held back
unfoldable pub admit : Run → ℕ → List Access → Effect → Outcome
admit r n gs e = cond (every (allowed r n) gs) (accept e) (refuse (hold r n gs))

-- what a plan of task n comes to in this run
unfoldable pub settle : Run → ℕ → Plan → Outcome
settle r n (stop k) = refuse k
settle r n (go gs e) = admit r n gs e
settle r n (fetch a f) = admit r n (reads a ∷ []) (f (get_or r.memory a 0))

-- task n is in the order
unfoldable pub among : ℕ → List ℕ → Bool
among n [] = false
among n (k ∷ ks) = eqb k n || among n ks

-- "9 number above 127; 10 not in the order", then what the plan comes to
unfoldable pub decide : Context → Run → Call → Outcome
decide c r b =
    let n = b.task in
    let outcome = settle r n (plan c b.action n (task_of r n)) in
    cond (ltb n 128) (cond (among n r.order) outcome (refuse 10)) (refuse 9)

-- request 107: "entry + Rb modulo 2^32"
abbrev pub sum_of : ℕ → ℕ → ℕ
sum_of entry v = wrap (entry + v)

-- the memory after an edit
unfoldable pub edited : Edit → List ℕ → List ℕ
edited keep m = m
edited (put a v) m = set m a v
edited (add a v) m = set m a (sum_of (get_or m a 0) v)

-- the table with these records written
unfoldable pub written : List Numbered → List Task → List Task
written [] ts = ts
written (x ∷ xs) ts = set (written xs ts) x.number x.task

-- the order with xs in the place of task n
unfoldable pub splice : ℕ → List ℕ → List ℕ → List ℕ
splice n xs [] = []
splice n xs (k ∷ ks) = let rest = splice n xs ks in cond (eqb k n) (xs ++ rest) (k ∷ rest)

-- the task's own place, unless it leaves
unfoldable pub stays : Bool → ℕ → List ℕ
stays true n = []
stays false n = n ∷ []

-- "directly ahead of its spawner in the order": the tasks made, then the task itself
unfoldable pub places : ℕ → Effect → List ℕ
places n e = map (λ x. x.number) e.made ++ stays e.leaves n

-- "adds .. its weight to record"
abbrev pub charged : ℕ → Task → Task
charged w t = record t { weight = t.weight + w }

-- the records that a call of task n writes: its own, and those of the tasks made
unfoldable pub changes : ℕ → Effect → List Numbered
changes n e = record { number = n; task = charged e.weight e.task } ∷ e.made

-- "Each accepted call adds 1 to calls and its weight to record and run"
unfoldable pub apply : ℕ → Effect → Run → Run
apply n e r =
    record {
      memory = edited e.edit r.memory;
      tasks = written (changes n e) r.tasks;
      order = splice n (places n e) r.order;
      calls = suc r.calls;
      weight = r.weight + e.weight;
    }

-- the run that a call leaves, none where it is refused
unfoldable pub taken : Run → ℕ → Outcome → Option Run
taken r n (refuse k) = none
taken r n (accept e) = some (apply n e r)

-- one call
unfoldable pub call : Context → Run → Call → Option Run
call c r b = taken r b.task (decide c r b)

abbrev pub or_same : Run → Option Run → Run
or_same r none = r
or_same r (some r') = r'

-- "a refused call leaves it as it was"
unfoldable pub after : Context → Run → Call → Run
after c r b = or_same r (call c r b)

-- "The first gets the fresh run, each later one the run as the call before it left it"
unfoldable pub after_all : Context → Run → List Call → Run
after_all c r [] = r
after_all c r (b ∷ bs) = after_all c (after c r b) bs

abbrev pub one_if : Option Run → ℕ
one_if none = 0
one_if (some r) = 1

-- "the number of accepted calls in that list"
unfoldable pub accepted_count : Context → Run → List Call → ℕ
accepted_count c r [] = 0
accepted_count c r (b ∷ bs) = one_if (call c r b) + accepted_count c (after c r b) bs

abbrev pub outcome_weight : Outcome → ℕ
outcome_weight (refuse k) = 0
outcome_weight (accept e) = e.weight

-- "its weight the sum of theirs"
unfoldable pub weight_sum : Context → Run → List Call → ℕ
weight_sum c r [] = 0
weight_sum c r (b ∷ bs) = outcome_weight (decide c r b) + weight_sum c (after c r b) bs
