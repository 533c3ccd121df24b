-- The numbers of the library and today's weights, then the hand run.
-- Assumes nothing.
use Rattle.std.proofs.Common.{◌∙◌}
use Rattle.semantics.specs.Run.{fixed_weights}
use Rattle.semantics.specs.Sequential.{sequential}
use Rattle.semantics.specs.Operations.{sequential_asked}
use Rattle.wording.proofs.OpeningLaws.{asked_by}
use Rattle.host_bill.proofs.files.hand_run_files.Goals as goal

pub returns : goal.returns
unfolding sequential_asked
returns c =
    let a = c.args in
    asked_by (λ k m. sequential k m) a.jobs.now a.numbers.now c.as_slice.result.now c.todays_weights.result fixed_weights
    c.sequential.result (c.as_slice.ensures ∙ c.read_numbers-memory.ensures.values) c.todays_weights.ensures c.sequential.ensures
