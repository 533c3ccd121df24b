-- By check's two answers.
-- Assumes nothing.
use Rattle.std.proofs.Common.{◌+◌, ap, ◌∙◌}
use Rattle.preview.specs.Preview.{check_over_c, check_number}
use Rattle.preview.proofs.preview_check.Goals as goal

pub returns-in-Ok : goal.returns-in-Ok
unfolding check_over_c
returns-in-Ok c = c.from.ensures ∙ ap check_number c.in-Ok.ensures

pub returns-in-Err : goal.returns-in-Err
unfolding check_over_c
returns-in-Err c = c.refused.ensures ∙ ap (λ k. 128 + k) c.from-in-Err.ensures ∙ ap check_number c.in-Err.ensures
