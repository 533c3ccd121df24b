use Rattle.sequence.specs.Replays.{calls_of}
use Rattle.sequence.proofs.ReplayLaws.{replay_refused, replay_made}
use Rattle.sequence.proofs.replaying.replay.Goals as goal

pub returns-in_err-fresh : goal.returns-in_err-fresh
returns-in_err-fresh c =
    let a = c.args in
    replay_refused a.list.now a.memory.now a.weights.now (calls_of a.kinds.now a.tasks.now) c.in_err-fresh.field-0.0
    c.in_err-fresh.ensures c.from_residual.result c.from_residual.ensures.1

pub returns : goal.returns
returns c =
    let a = c.args in
    replay_made a.list.now a.memory.now a.weights.now (calls_of a.kinds.now a.tasks.now) c.in_ok-fresh.fresh c.in_ok-fresh.ensures
    c.all_called.result c.all_called.ensures
