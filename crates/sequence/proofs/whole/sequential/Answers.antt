use Rattle.sequence.proofs.SequentialLaws.{sequential_refused, sequential_made}
use Rattle.sequence.proofs.whole.sequential.Goals as goal

pub returns-in_err-run : goal.returns-in_err-run
returns-in_err-run c =
    let a = c.args in
    sequential_refused a.list.now a.memory.now a.weights.now c.in_err-run.field-0.0 c.in_err-run.ensures c.from_residual.result
    c.from_residual.ensures.1

pub returns : goal.returns
returns c =
    let a = c.args in
    sequential_made a.list.now a.memory.now a.weights.now c.in_ok-run.run' c.in_ok-run.ensures c.body_count-bodies.result
    c.body_count-bodies.ensures.bodies c.run_whole.new.run c.run_whole.ensures
