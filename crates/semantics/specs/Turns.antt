-- A side that always makes the next call of the foremost task, and another side that makes any calls between: document 02,
-- request 112.
use Rattle.std.specs.Prelude.{ℕ, zero, suc, ◌+◌, List, [], ◌∷◌, Bool, true, false, cond, ◌&&◌, eqb}
use Rattle.std.proofs.Math.Option.{Option, none, some}
use Rattle.semantics.specs.Run.{Task, Run, Context, task_of}
use Rattle.semantics.specs.Plan.{Action, start, step, end, at_end}
use Rattle.semantics.specs.Call.{Call, Outcome, refuse, decide, call, after, one_if}
use Rattle.semantics.specs.Sequential.{trace}

-- the next call of a task, by its record: its start while it waits, then its steps, at its end its end
unfoldable pub next_action : Context → Task → Action
next_action c t = cond (eqb t.state 1) start (cond (at_end c t) end step)

unfoldable pub next_call : Context → Run → ℕ → Call
next_call c r n = record { action = next_action c (task_of r n); task = n }

-- "the next call of the foremost job" of an order, none where no task is left
unfoldable pub foremost_call : Context → Run → List ℕ → Option Call
foremost_call c r [] = none
foremost_call c r (n ∷ ns) = some (next_call c r n)

-- "25 where no job is left"
unfoldable pub decide_move : Context → Run → Option Call → Outcome
decide_move c r none = refuse 25
decide_move c r (some b) = decide c r b

-- what "the first side's move" comes to
unfoldable pub move : Context → Run → Outcome
move c r = decide_move c r (foremost_call c r r.order)

unfoldable pub after_move_by : Context → Run → Option Call → Run
after_move_by c r none = r
after_move_by c r (some b) = after c r b

-- the run that it leaves
unfoldable pub after_move : Context → Run → Run
after_move c r = after_move_by c r (foremost_call c r r.order)

-- "let one side always make the next call of the foremost job, and the other side any calls between, refused ones included"
pub data Ply : Type 0 where
  -- a turn of the first side
  turn : Ply
  -- a call of the other side
  other : Call → Ply

unfoldable pub after_ply : Context → Run → Ply → Run
after_ply c r turn = after_move c r
after_ply c r (other b) = after c r b

unfoldable pub after_play : Context → Run → List Ply → Run
after_play c r [] = r
after_play c r (p ∷ ps) = after_play c (after_ply c r p) ps

-- how many turns the first side had
unfoldable pub turns : List Ply → ℕ
turns [] = 0
turns (turn ∷ ps) = suc (turns ps)
turns (other b ∷ ps) = turns ps

unfoldable pub others_call : Context → Run → Ply → ℕ
others_call c r turn = 0
others_call c r (other b) = one_if (call c r b)

-- how many calls of the other side were accepted: 0 where "the other side's calls are all refused"
unfoldable pub others_accepted : Context → Run → List Ply → ℕ
others_accepted c r [] = 0
others_accepted c r (p ∷ ps) = others_call c r p + others_accepted c (after_ply c r p) ps

unfoldable pub is_end : Action → Bool
is_end start = false
is_end step = false
is_end end = true

-- the K-th of these calls, counted from 1, ends task n
unfoldable pub ends_at : ℕ → ℕ → List Call → Bool
ends_at n k [] = false
ends_at n zero (b ∷ bs) = false
ends_at n (suc zero) (b ∷ bs) = is_end b.action && eqb b.task n
ends_at n (suc (suc k)) (b ∷ bs) = ends_at n (suc k) bs

-- "the hand run ends job n with its K-th call", counted over the calls of all tasks
unfoldable pub ends_with : Context → List ℕ → ℕ → ℕ → Bool
ends_with c memory n k = ends_at n k (trace c memory)
