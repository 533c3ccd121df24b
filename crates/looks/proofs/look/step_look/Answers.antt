use Rattle.std.proofs.Common.{sym, ◌∙◌}
use Rattle.looks.proofs.LookLaws.{ready_finished, ready_now}
use Rattle.looks.proofs.look.step_look.Goals as goal

pub returns-then-at_end : goal.returns-then-at_end
returns-then-at_end c =
    let a = c.args in
    let started = c.in_ok-place.ensures in
    ready_finished a.order.now a.task c.in_ok-place.place a.own started.1 a.size started.0 (sym c.at_end.ensures ∙ c.if-at_end.true)

pub returns : goal.returns
returns c =
    let a = c.args in
    let started = c.in_ok-place.ensures in
    ready_now a.order.now a.task c.in_ok-place.place a.own started.1 a.size started.0 (sym c.at_end.ensures ∙ c.if-at_end.false)
