-- The numbers of the library and today's weights, then the table.
-- Assumes nothing.
use Rattle.std.proofs.Common.{◌∙◌}
use Rattle.semantics.specs.Run.{fixed_weights}
use Rattle.host_rounds.proofs.FileLaws.{tabled_by}
use Rattle.host_rounds.proofs.table.files_table.Goals as goal

pub returns : goal.returns
returns c =
    let a = c.args in
    tabled_by a.jobs.now a.numbers.now fixed_weights c.as_slice.result.now c.todays_weights.result c.rounds_table.result
    (c.as_slice.ensures ∙ c.read_numbers-memory.ensures.values) c.todays_weights.ensures c.rounds_table.ensures
