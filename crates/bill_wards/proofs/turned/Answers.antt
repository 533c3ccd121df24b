-- In the last ward's block, no such number, never made, or the next ward. Assumes nothing.
use Rattle.std.proofs.Common.{arith}
use Rattle.bill_wards.proofs.TurnLaws.{told_of, not_told, turned_inside, turned_beyond, turned_blank, turned_ward}
use Rattle.bill_wards.proofs.turned.Goals as goal

pub returns-then-from-walk : goal.returns-then-from-walk
returns-then-from-walk c =
    turned_inside c.args.run c.args.walk c.args.n c.requires (omega (arith, c.from.ensures, c.if-from-walk.true))

pub returns-in_default : goal.returns-in_default
returns-in_default c =
    let a = c.args in
    turned_beyond a.run a.walk a.n c.requires (not_told a.run a.n c.from-2.result c.from-2.ensures c.in_default.field-0 c.in_default.ensures)

pub returns-then-own-eq-NEVER_MADE : goal.returns-then-own-eq-NEVER_MADE
returns-then-own-eq-NEVER_MADE c =
    let a = c.args in
    let told = told_of a.run a.n c.from-2.result c.from-2.ensures c.in-Ok.told c.in-Ok.ensures in
    turned_blank a.run a.walk a.n c.requires (omega (arith, c.from.ensures, c.if-from-walk.false)) told.0 _ told.1 c.if-own-eq-NEVER_MADE.true

pub bounds-found-found : goal.bounds-found-found
bounds-found-found c =
    let told = told_of c.args.run c.args.n c.from-2.result c.from-2.ensures c.in-Ok.told c.in-Ok.ensures in
    omega (arith, c.requires.few, told.0)

pub bounds-found-found-2 : goal.bounds-found-found-2
bounds-found-found-2 c =
    let told = told_of c.args.run c.args.n c.from-2.result c.from-2.ensures c.in-Ok.told c.in-Ok.ensures in
    omega (arith, c.requires.few, told.0)

pub returns : goal.returns
returns c =
    let a = c.args in
    let size = c.block_size-size in
    let told = told_of a.run a.n c.from-2.result c.from-2.ensures c.in-Ok.told c.in-Ok.ensures in
    rw c.from-3.ensures
    (turned_ward a.run a.walk a.n c.requires (omega (arith, c.from.ensures, c.if-from-walk.false)) told.0 _ told.1 c.if-own-eq-NEVER_MADE.false
    size.result c.block_weight.result size.ensures.sound c.block_weight.ensures)
