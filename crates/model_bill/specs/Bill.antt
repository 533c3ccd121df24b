-- The wards of a run, their weights and the shares of a bill: document 02, request 114.
use Rattle.std.specs.Prelude.{ℕ, zero, suc, ◌-◌, List, [], ◌∷◌, ◌++◌, map, Bool, cond, not, length, take, drop, leb, eqb}
use Rattle.tasklist.specs.TaskList.{total, task_count}
use Rattle.semantics.specs.Run.{Task, Run, Context, task_of}
use Rattle.semantics.specs.Call.{Call, Outcome, decide, after}
use Rattle.semantics.specs.Sequential.{made_by}
use Rattle.semantics.specs.Operations.{Asked, denies, gives}
use Rattle.semantics.specs.Sound.{weighs}
use Rattle.bill_shares.specs.Shares.{shares}

-- A task (document 01: a job) that was made: its state is not "0 never made".
unfoldable pub is_made : Task → Bool
is_made t = not (eqb t.state 0)

-- The wards among the tasks from number n on, the first `within` of which are of the block of the ward before: the first task
-- made behind that block is the next ward.
unfoldable pub wards_from : Context → ℕ → ℕ → List Task → List ℕ
wards_from c within n [] = []
wards_from c (suc within) n (t ∷ ts) = wards_from c within (suc n) ts
wards_from c zero n (t ∷ ts) =
    let next = n ∷ wards_from c (task_count c.list t.body - 1) (suc n) ts in
    cond (is_made t) next (wards_from c zero (suc n) ts)

-- "A ward is a job that job 0's spawn or fan made". They are read off the records, from number 1 on: `BillLaw.made` says that
-- these are exactly the tasks that job 0's calls made.
unfoldable pub wards : Context → Run → List ℕ
wards c r = wards_from c 0 1 (drop 1 r.tasks)

-- "job 0's spawn or fan made": what an outcome of task n made, where n is 0
unfoldable pub made_if : ℕ → Outcome → List ℕ
made_if zero o = made_by o
made_if (suc n) o = []

-- the tasks that job 0's calls of a list of calls make, as they come
unfoldable pub made_by_first : Context → Run → List Call → List ℕ
made_by_first c r [] = []
made_by_first c r (b ∷ bs) = made_if b.task (decide c r b) ++ made_by_first c (after c r b) bs

-- "its weight is the sum over its block of numbers"
unfoldable pub ward_weight : Context → Run → ℕ → ℕ
ward_weight c r n = total weighs (take (task_count c.list (task_of r n).body) (drop n r.tasks))

-- of each ward. "Job 0's own weight is not shared."
unfoldable pub ward_weights : Context → Run → List ℕ
ward_weights c r = map (ward_weight c r) (wards c r)

-- "(28 jobs left in the run; 29 no ward; then 17 for a short slice.)", else the shares, "by rising job number", for a slice of
-- `room` places
unfoldable pub shares_asked : Context → Run → ℕ → ℕ → Asked (List ℕ)
shares_asked c r bill room =
    let given = cond (leb (length (wards c r)) room) (gives (shares bill (ward_weights c r))) (denies 17) in
    cond (eqb (length r.order) 0) (cond (eqb (length (wards c r)) 0) (denies 29) given) (denies 28)
