-- It is not too long, and there is room for the lines of all its calls.
-- Assumes nothing.
use mathlib.Core.Path.{◌∙◌}
use lib.ListN.{length}
use Rattle.transcript.proofs.PieceLaws.{exceeds_none, used_all}
use Rattle.coordinator.proofs.fed_whole.Goals as goal

pub returns : goal.returns
returns c =
    let a = c.args in
    let fed = c.feed in
    let fit = c.requires in (
      fed.ensures,
      fed.ensures.used ∙ used_all a.run a.pending a.piece.now a.out.now (exceeds_none (length a.piece.now) (length a.out.now) fit.0 fit.1),
    )
