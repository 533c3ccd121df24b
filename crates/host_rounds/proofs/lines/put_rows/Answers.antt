-- The lines of the first numbers of workers are put.
-- Assumes nothing.
use Rattle.std.proofs.Common.{◌≤◌, sym, subst, arith, length}
use Rattle.std.proofs.lemmas.List.{length_push}
use Rattle.model_rounds.specs.Rounds.{most_rounds}
use Rattle.wording.proofs.JoinedLaws.{joined_none, joined_more, joined_all}
use Rattle.host_rounds.specs.Promises.{rounds_at, calls_in}
use Rattle.host_rounds.proofs.CountLaws.{beside_turn, beside_end}
use Rattle.host_rounds.proofs.LineLaws.{row_here, rows_joined}
use Rattle.host_rounds.proofs.lines.put_rows.Goals as goal

pub loop-workers-init : goal.loop-workers-init
loop-workers-init c = joined_none _ _ _ _ _

pub put_row-stop-requires : goal.put_row-stop-requires
put_row-stop-requires c =
    let t = c.args.table in
    let l = c.loop-workers in
    let turn = beside_turn t t.size.long c.into_iter-workers-iterator.result (record { from = cc; to = cc; unspent = cc; tallies = cc })
    l.yielded l.workers-iterator c.next.new.self l.yielded_by _ _ c.in-Some.is c.next.ensures.steps in
    record {
      room = omega (arith, l.invariant.few, l.invariant.put.long, turn.0, c.requires);
      few = (t.size.few_calls 0, omega (arith, turn.0, turn.1), subst (λ r. r.rounds ≤ most_rounds) (sym turn.2) (t.size.few_rounds (length l.yielded)));
    }

pub loop-workers-preserved : goal.loop-workers-preserved
loop-workers-preserved c =
    let t = c.args.table in
    let l = c.loop-workers in
    let put = c.put_row-stop in
    let turn = beside_turn t t.size.long c.into_iter-workers-iterator.result (record { from = cc; to = cc; unspent = cc; tallies = cc })
    l.yielded l.workers-iterator c.next.new.self l.yielded_by _ _ c.in-Some.is c.next.ensures.steps in
    let line = row_here t c.in-Some.workers (length l.yielded) c.in-Some.report.now turn in
    joined_more _ _ _ _ _ l.invariant turn.0 0 (rw (← line) put.ensures.put) put.ensures.most (length_push _ _)

pub returns : goal.returns
returns c =
    let l = c.loop-workers in
    let t = c.args.table in
    let last = beside_end t c.args.table.size.long c.into_iter-workers-iterator.result (record { from = cc; to = cc; unspent = cc; tallies = cc })
    l.yielded l.workers-iterator c.next.new.self l.yielded_by _ c.in-None.is c.next.ensures.steps in
    let all = joined_all _ _ _ _ _ l.invariant (omega (arith, last)) in
    record { put = rw (← rows_joined (calls_in t) (rounds_at t) 16 1) all.0; most = all.1 }
