-- Rounds with so many workers: document 02, request 111. A task is document 01's job.
use Rattle.std.specs.Prelude.{ℕ, zero, suc, List, [], ◌∷◌, ◌++◌, map, Bool, true, false, cond, ◌&&◌, length, take, leb}
use Rattle.tasklist.specs.Decode.{decode}
use Rattle.semantics.specs.Run.{Run, Context, initial}
use Rattle.semantics.specs.Access.{only}
use Rattle.semantics.specs.Call.{Call, Outcome, refuse, accept, decide, after_all}
use Rattle.semantics.specs.Turns.{next_call}
use Rattle.semantics.specs.Operations.{Asked, denies, with_list}

unfoldable pub is_accepted : Outcome → Bool
is_accepted (refuse k) = false
is_accepted (accept e) = true

-- a task "whose next call would be accepted" in this run; `next_call` is request 112's
unfoldable pub ready : Context → Run → ℕ → Bool
ready c r n = is_accepted (decide c r (next_call c r n))

-- the next calls of all tasks in the order that are ready, front to back
unfoldable pub ready_calls : Context → Run → List Call
ready_calls c r = map (next_call c r) (only (ready c r) r.order)

-- "In a round with P workers, 1 to 16, the first P jobs in the order whose next call would be accepted at the round's start make
-- that call.": the calls of the round that begins in this run, front to back
unfoldable pub round_calls : Context → ℕ → Run → List Call
round_calls c workers r = take workers (ready_calls c r)

-- these rounds where a task is left in this order, else none
abbrev pub while_left : List ℕ → List (List Call) → List (List Call)
while_left [] rounds = []
while_left (n ∷ ns) rounds = rounds

-- the rounds from a run on until no task is left, at most so many: the calls of each
unfoldable pub rounds_from : Context → ℕ → ℕ → Run → List (List Call)
rounds_from c workers zero r = []
rounds_from c workers (suc most) r =
    let calls = round_calls c workers r in
    let more = rounds_from c workers most (after_all c r calls) in
    while_left r.order (calls ∷ more)

-- the calls of some rounds, one after another
unfoldable pub all_calls : List (List Call) → List Call
all_calls [] = []
all_calls (calls ∷ rounds) = calls ++ all_calls rounds

-- No publication takes more rounds: each of at most 128 tasks makes at most 34 calls (a start, 32 steps and an end), and each round
-- makes at least one (`RoundsLaw`, field `finishes`).
unfoldable pub most_rounds : ℕ
most_rounds = 4352

-- "the rounds a publication takes", "from a fresh run"
unfoldable pub publication : Context → List ℕ → ℕ → List (List Call)
publication c memory workers = rounds_from c workers most_rounds (initial c memory)

-- "with 128 workers": one for each task there can be
abbrev pub all_workers : ℕ
all_workers = 128

-- "report the rounds, the calls, and the span"
pub record Report : Type 0 where
  pub rounds : ℕ
  pub calls : ℕ
  pub span : ℕ

-- "the span, which is the rounds with 128 workers"
unfoldable pub report : Context → List ℕ → ℕ → Report
report c memory workers =
    record {
      rounds = length (publication c memory workers);
      calls = length (all_calls (publication c memory workers));
      span = length (publication c memory all_workers);
    }

-- "P workers, 1 to 16"
abbrev pub most_workers : ℕ
most_workers = 16

-- "Take P and what open takes"; "24 for P outside 1 to 16, before all else"
unfoldable pub rounds_asked : ℕ → List ℕ → List ℕ → List ℕ → Asked Report
rounds_asked workers bytes memory weights =
    cond (leb 1 workers && leb workers most_workers)
    (with_list (decode bytes) memory weights (λ c. report c memory workers))
    (denies 24)
