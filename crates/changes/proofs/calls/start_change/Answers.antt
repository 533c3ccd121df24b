use Rattle.std.proofs.Common.{ap, ◌∙◌}
use Rattle.looks.specs.Looks.{with_parts}
use Rattle.changes.specs.Changes.{counted}
use Rattle.changes.proofs.ChangeLaws.{start_changed}
use Rattle.changes.proofs.calls.start_change.Goals as goal

pub returns : goal.returns
returns c =
    let a = c.args in
    λ run same table.
    let free = c.in_ok-start_look.ensures run same in
    start_changed (with_parts run.tables run.memory a.modes.now a.order.now.places a.order.now.left run) a.task a.own same free.0
    (λ s. (free.1 s).1) a.weights table c.weight_at.result c.weight_at.ensures.0 c.changed.result
    (c.changed.ensures ∙ ap (λ t. counted t c.weight_at.result) c.in_state-next.ensures)
