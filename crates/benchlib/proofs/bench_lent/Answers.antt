-- Assumes nothing.
use Rattle.std.proofs.Common.{rules, take}
use Rattle.semantics.specs.Run.{fixed_weights}
use Rattle.lent.specs.Lines as Lines
use Rattle.benchlib.specs.Counts.{lent_asked}
use Rattle.benchlib.proofs.CountLaws.{made_told, in_each_case}
use Rattle.benchlib.proofs.bench_lent.Goals as goal

pub returns : goal.returns
unfolding lent_asked
returns c =
    let a = c.args in
    made_told a.list.now a.memory.now fixed_weights (Lines.calls_in (take 512 a.input.now)) _ c.todays_weights.result c.todays_weights.ensures c.open.result
    (in_each_case c.open.result (λ from h. search rules) (λ e h. h) c.map_or.ensures) c.open.ensures
