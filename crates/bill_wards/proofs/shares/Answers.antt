-- The four answers. Assumes nothing.
use Rattle.std.proofs.Common.{◌++◌, drop, ap, arith}
use Rattle.bill_wards.proofs.BillLaws.{billed_left, billed_none, billed_short, billed_shared}
use Rattle.bill_wards.proofs.shares.Goals as goal

pub returns-then-left-gt0 : goal.returns-then-left-gt0
returns-then-left-gt0 c =
    let a = c.args in
    let left = c.tasks_left-left in
    billed_left a.run a.bill a.out.now left.result left.ensures c.if-left-gt0.true

pub returns-then-count-eq0 : goal.returns-then-count-eq0
returns-then-count-eq0 c =
    let a = c.args in
    let left = c.tasks_left-left in
    let w = c.wards_of-wards in
    billed_none a.run a.bill a.out.now left.result left.ensures (omega (arith, c.if-left-gt0.false)) w.result
    w.ensures c.if-count-eq0.true

pub returns-then-out-count : goal.returns-then-out-count
returns-then-out-count c =
    let a = c.args in
    let left = c.tasks_left-left in
    let w = c.wards_of-wards in
    billed_short a.run a.bill a.out.now left.result left.ensures (omega (arith, c.if-left-gt0.false))
    w.result w.ensures c.if-count-eq0.false c.if-out-count.true

pub returns : goal.returns
returns c =
    let a = c.args in
    let left = c.tasks_left-left in
    let w = c.wards_of-wards in
    let given = c.shares_of-given in
    billed_shared a.run a.bill a.out.now left.result left.ensures
    (omega (arith, c.if-left-gt0.false)) w.result w.ensures
    c.if-count-eq0.false given.result _
    (omega (arith, c.if-out-count.false)) given.ensures (ap (λ l. l ++ drop w.result.count a.out.now) c.copy_from_slice.ensures.after)
