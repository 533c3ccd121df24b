-- Place by place: the tallies of 1 to 16 workers, then the span. Assumes nothing.
use Rattle.std.proofs.Common.{◌≡◌, subst, arith}
use Rattle.run_rounds.proofs.TableLaws.{Filled, filled_none, filled_more, whole_table}
use Rattle.run_rounds.proofs.counting.rounds_table.Goals as goal

pub loop-place-init : goal.loop-place-init
loop-place-init c = filled_none c.in_ok-run.run'

pub loop-place-preserved : goal.loop-place-preserved
loop-place-preserved c =
    let l = c.loop-place in
    filled_more c.in_ok-run.run' l.report-items l.place l.invariant c.loop-place-test.true c.tally.result c.tally.ensures

pub returns : goal.returns
returns c =
    let a = c.args in
    let l = c.loop-place in
    let full : l.place ≡ 16 = omega arith in
    whole_table a.list.now a.memory.now a.weights.now c.in_ok-run.run' c.in_ok-run.ensures l.report-items
    (subst (Filled c.in_ok-run.run' l.report-items) full l.invariant) c.tally-span.result c.tally-span.ensures _
