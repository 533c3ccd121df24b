-- Assumes nothing.
use Rattle.std.proofs.Common.{rules}
use Rattle.semantics.specs.Run.{fixed_weights}
use Rattle.sequence.specs.Replays.{calls_of}
use Rattle.benchlib.proofs.CountLaws.{replay_told}
use Rattle.benchlib.proofs.bench_replay.Goals as goal

pub returns : goal.returns
returns c =
    let a = c.args in
    replay_told a.list.now a.memory.now fixed_weights (calls_of a.kinds.now a.tasks.now) _ c.todays_weights.result c.todays_weights.ensures c.replay.result
    (search rules) c.replay.ensures
