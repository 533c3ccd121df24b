use Rattle.std.proofs.Common.{sym, ◌∙◌}
use Rattle.looks.proofs.LookLaws.{end_finished, end_early}
use Rattle.looks.proofs.look.end_look.Goals as goal

pub returns-then-not-at_end : goal.returns-then-not-at_end
returns-then-not-at_end c =
    let a = c.args in
    let started = c.in_ok-place.ensures in
    end_early a.order.now a.task c.in_ok-place.place a.own started.1 a.size started.0 (sym c.at_end.ensures ∙ c.if-not-at_end.true)

pub returns : goal.returns
returns c =
    let a = c.args in
    let started = c.in_ok-place.ensures in
    end_finished a.order.now a.task c.in_ok-place.place a.own started.1 a.size started.0 (sym c.at_end.ensures ∙ c.if-not-at_end.false)
