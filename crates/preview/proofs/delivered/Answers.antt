-- By whether the bytes fit.
-- Assumes nothing.
use Rattle.std.proofs.Common.{refl}
use Rattle.plans.specs.View.{model as parts_model}
use Rattle.preview.proofs.PreviewLaws.{delivers}
use Rattle.preview.proofs.delivered.Goals as goal

pub returns-in-Ok : goal.returns-in-Ok
unfolding parts_model
returns-in-Ok c = delivers c.args.run _ c.args.res.now _ c.entries.ensures _ c.in-Ok.ensures 0 refl

pub returns-in-Err : goal.returns-in-Err
unfolding parts_model
returns-in-Err c = delivers c.args.run _ c.args.res.now _ c.entries.ensures _ c.in-Err.ensures _ c.refused.ensures
