use Rattle.std.proofs.Common.{◌<◌, arith}
use Rattle.looks.specs.Looks.{ordered}
use Rattle.plans.proofs.DecideLaws.{no_number}
use Rattle.looks.proofs.LookLaws.{located}
use Rattle.looks.proofs.look.place_of.Goals as goal

pub returns-in-Ok-0-to-127 : goal.returns-in-Ok-0-to-127
returns-in-Ok-0-to-127 c =
    let same = c.in-Ok-0-to-127.ensures.1 in
    rw (c.ok_or.ensures.value, ← same)
    (located c.args.order.now c.in-Ok-0-to-127.number (omega arith) c.position.result c.position.ensures)

pub returns-in_default : goal.returns-in_default
returns-in_default c =
    λ run s a.
    let far : 127 < c.args.task = omega (arith, c.in_default.ensures) in
    no_number (ordered c.args.order.now.places c.args.order.now.left run) c.args.task a far

pub returns-in_default-2 : goal.returns-in_default-2
returns-in_default-2 c =
    λ run s a.
    let no_byte = rw c.in_default.is at c.try_from.ensures in
    no_number (ordered c.args.order.now.places c.args.order.now.left run) c.args.task a (omega (arith, no_byte))
