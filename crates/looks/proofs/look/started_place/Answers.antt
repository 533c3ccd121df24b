use Rattle.looks.proofs.LookLaws.{not_started}
use Rattle.looks.proofs.look.started_place.Goals as goal

pub returns-then-own-ne2 : goal.returns-then-own-ne2
returns-then-own-ne2 c =
    let a = c.args in
    not_started a.order.now a.task c.in_ok-place.place a.own c.in_ok-place.ensures c.if-own-ne2.true
