-- By the sequential run's answers.
-- Assumes nothing.
use Rattle.std.proofs.Common.{refl, ap, ◌∙◌}
use Rattle.std.specs.Prelude.{Ok, Err}
use Rattle.preview.specs.Preview.{refusal_over_c}
use Rattle.preview.proofs.PreviewLaws.{flattened, ran}
use Rattle.preview.proofs.preview_hand_run.Goals as goal

pub returns-in-Ok : goal.returns-in-Ok
returns-in-Ok c =
    let a = c.args in
    ran a.list.now a.library.now a.table.now a.res.now _ _ _ _ (c.as_slice.ensures ∙ c.read_numbers-memory.ensures.values)
    (flattened c.read_table-weights.result _ _ c.as_slice-2.ensures c.as_flattened.ensures.value ∙ c.read_table-weights.ensures.values)
    (Ok c.in-Ok.run') c.in-Ok.ensures c.delivered.ensures

pub returns-in-Err : goal.returns-in-Err
returns-in-Err c =
    let a = c.args in
    ran a.list.now a.library.now a.table.now a.res.now _ _ _ _ (c.as_slice.ensures ∙ c.read_numbers-memory.ensures.values)
    (flattened c.read_table-weights.result _ _ c.as_slice-2.ensures c.as_flattened.ensures.value ∙ c.read_table-weights.ensures.values)
    (Err c.in-Err.unopened) c.in-Err.ensures (c.refused.ensures ∙ ap refusal_over_c c.from.ensures, refl)
