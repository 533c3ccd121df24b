-- Round by round: those counted, and those still to come, are the model's. Assumes nothing.
use Rattle.std.proofs.Common.{ℕ, ◌≡◌, subst, arith}
use Rattle.run_rounds.specs.Looking.{TallyOf}
use Rattle.run_rounds.proofs.TallyLaws.{counted_out, counted_most, counting_more}
use Rattle.run_rounds.proofs.counting.tally.Goals as goal

pub returns-then-run-eq0 : goal.returns-then-run-eq0
returns-then-run-eq0 c =
    let l = c.loop-rounds in
    counted_out c.args.run c.args.workers l.run l.rounds l.calls l.invariant c.if-run-eq0.true

pub loop-rounds-preserved : goal.loop-rounds-preserved
loop-rounds-preserved c =
    let l = c.loop-rounds in
    let b = c.round_calls-batch in
    counting_more c.args.run c.args.workers l.run l.rounds l.calls l.invariant c.if-run-eq0.false c.loop-rounds-test.true
    b.result b.ensures c.from-calls.result c.from-calls.ensures c.all_called-run.result (rw c.from-count.ensures at c.all_called-run.ensures)

pub returns : goal.returns
returns c =
    let l = c.loop-rounds in
    let all : l.rounds ≡ 4352 = omega arith in
    subst (λ (n : ℕ). TallyOf c.args.run c.args.workers (record { rounds = n; calls = l.calls })) all
    (counted_most c.args.run c.args.workers l.run l.rounds l.calls l.invariant (omega arith))
