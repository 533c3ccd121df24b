-- Assumes nothing.
use Rattle.std.proofs.Common.{rules}
use Rattle.semantics.specs.Run.{fixed_weights}
use Rattle.semantics.specs.Operations.{open_asked}
use Rattle.benchlib.proofs.CountLaws.{left_told}
use Rattle.benchlib.proofs.bench_open.Goals as goal

pub returns : goal.returns
returns c =
    let a = c.args in
    left_told a.list.now c.todays_weights.result fixed_weights c.todays_weights.ensures (open_asked a.list.now a.memory.now) _ c.open.result (search rules)
    c.open.ensures
