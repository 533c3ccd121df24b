-- The numbers of the library and today's weights, then open.
-- Assumes nothing.
use Rattle.std.proofs.Common.{◌∙◌}
use Rattle.semantics.specs.Run.{fixed_weights}
use Rattle.wording.proofs.OpeningLaws.{opened_by}
use Rattle.wording.proofs.opening.open_files.Goals as goal

pub returns : goal.returns
returns c =
    opened_by c.args.jobs.now c.args.numbers.now _ _ fixed_weights c.open.result (c.as_slice.ensures ∙ c.read_numbers-memory.ensures.values)
    c.todays_weights.ensures c.open.ensures
