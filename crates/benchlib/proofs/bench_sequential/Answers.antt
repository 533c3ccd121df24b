-- Assumes nothing.
use Rattle.std.proofs.Common.{rules}
use Rattle.semantics.specs.Run.{fixed_weights}
use Rattle.semantics.specs.Operations.{sequential_asked}
use Rattle.benchlib.proofs.CountLaws.{calls_told}
use Rattle.benchlib.proofs.bench_sequential.Goals as goal

pub returns : goal.returns
returns c =
    let a = c.args in
    calls_told a.list.now c.todays_weights.result fixed_weights c.todays_weights.ensures (sequential_asked a.list.now a.memory.now) _ c.sequential.result (search rules)
    c.sequential.ensures
