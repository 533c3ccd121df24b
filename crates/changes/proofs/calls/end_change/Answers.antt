use Rattle.std.proofs.Common.{ap, ◌∙◌, rules}
use Rattle.looks.specs.Looks.{ordered}
use Rattle.changes.specs.Changes.{counted}
use Rattle.changes.proofs.ChangeLaws.{end_changed}
use Rattle.changes.proofs.calls.end_change.Goals as goal

pub returns : goal.returns
returns c =
    let a = c.args in
    λ run same table fits.
    let free = c.in_ok-place.ensures run same fits in
    end_changed (ordered a.order.now.places a.order.now.left run) a.task c.in_ok-place.place a.own same free.0 free.1 c.remove.new.self
    (search rules) c.remove.ensures.out a.weights table c.weight_at.result c.weight_at.ensures.0 c.changed.result
    (c.changed.ensures ∙ ap (λ t. counted t c.weight_at.result) c.in_state-next.ensures)
