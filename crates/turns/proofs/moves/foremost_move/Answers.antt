-- Where a task is left, the foremost's next call is the move. Assumes nothing.
use Rattle.std.proofs.Common.{sym}
use Rattle.turns.proofs.MoveLaws.{moved_none, moved}
use Rattle.turns.proofs.moves.foremost_move.Goals as goal

pub returns-in_default : goal.returns-in_default
returns-in_default c = moved_none c.args.run (rw (← c.as_slice.ensures) (sym c.in_default.ensures.value))

pub returns : goal.returns
returns c =
    moved c.args.run c.in-Some.field-0.now (rw (← c.as_slice.ensures) (sym c.in-Some.ensures.value)) c.next_call-done.result
    c.next_call-done.ensures c.map_err.result c.map_err.ensures.cases
