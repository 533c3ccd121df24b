-- Which task has which number: document 01, "Jobs, order and queues". Counts are the tables' own, capped at 129.
use Rattle.std.specs.Prelude.{ℕ, zero, suc, ◌+◌, ◌-◌, ◌*◌, ◌/◌, cond, ltb, length, take, get_or}
use Rattle.tasklist.specs.declared.Instruction.{Instruction}
use Rattle.tasklist.specs.declared.Instruction.TheVariants.{Const, Add, Sub, Less, Load, Store, Skip, Spawn, Wait, Fan, Sum, Mul, Div}
use Rattle.tasklist.specs.declared.Tables.{Tables}
use Rattle.tasklist.specs.TaskList.{body_of, instruction_of, total, adds}
use Rattle.tasklist.specs.Tables.{list_of}
use Rattle.finding.specs.declared.Job.{Job}
use Rattle.finding.specs.Search.{first_from}

-- "Job 0 runs sheet 0"
abbrev pub first_job : Job
first_job = record { number = 0; body = 0; footprint = 0; spawner = 0; place = 0; child = 0; children = 0; depth = 0 }

-- "Job n's spawn at place i makes job n + 1 + the counts of all spawns before i in that sheet."
unfoldable pub number_at : Tables → Job → ℕ → ℕ
number_at t j i = j.number + 1 + total (adds (λ a. get_or t.counts a 1)) (take i (body_of (list_of t) j.body))

-- a task's child of number n: that of a spawn at place i, or child 0 of a fan of c children there
abbrev pub child_of : Job → ℕ → ℕ → ℕ → ℕ → ℕ → ℕ → Job
child_of j i n d a b c =
    record { number = n; body = a; footprint = b; spawner = j.number; place = i; child = 0; children = c; depth = d }

-- request 104: "child i starts at i × count(a) within that block": the child whose block holds k, from the fan's child 0
unfoldable pub fanned : Tables → ℕ → Job → Job
fanned t k j =
    let count = get_or t.counts j.body 1 in
    let i = (k - j.number) / count in
    record {
      number = j.number + i * count;
      body = j.body;
      footprint = j.footprint;
      spawner = j.spawner;
      place = j.place;
      child = i;
      children = j.children;
      depth = j.depth;
    }

-- the task that an instruction at place i makes, whose block holds k, where the instruction's numbers start at n; where it
-- is no spawn and no fan, the task itself
unfoldable pub made : Tables → Job → ℕ → ℕ → ℕ → ℕ → Instruction → Job
made t j i n k d (Const a v) = j
made t j i n k d (Add a b c) = j
made t j i n k d (Sub a b c) = j
made t j i n k d (Less a b c) = j
made t j i n k d (Load a b) = j
made t j i n k d (Store a b) = j
made t j i n k d (Skip a b) = j
made t j i n k d (Spawn a b) = child_of j i n d a b 0
made t j i n k d (Wait a) = j
made t j i n k d (Fan a b c) = fanned t k (child_of j i n d a b c)
made t j i n k d (Sum a b) = j
made t j i n k d (Mul a b c) = j
made t j i n k d (Div a b c) = j

-- the first place whose block ends above k
unfoldable pub place_of : Tables → Job → ℕ → ℕ
place_of t j k = first_from (λ i. ltb k (number_at t j (suc i))) 0 (length (body_of (list_of t) j.body))

-- the child made there; where no block holds k, there is no instruction and the task itself stands
unfoldable pub holder : Tables → Job → ℕ → ℕ → Job
holder t j k d =
    let i = place_of t j k in
    made t j i (number_at t j i) k d (instruction_of (list_of t) j.body i)

-- from a task down, at most so many levels, to the task of number k
unfoldable pub down : ℕ → Tables → ℕ → ℕ → Job → Job
down zero t k d j = j
down (suc levels) t k d j = cond (ltb j.number k) (down levels t k (suc d) (holder t j k (suc d))) j

-- the task of number k: "A spawn names a sheet higher than its own", so fewer than 32 stand above it
unfoldable pub numbered : Tables → ℕ → Job
numbered t k = down 32 t k 0 first_job
