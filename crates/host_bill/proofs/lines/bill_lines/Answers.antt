-- Nothing, the line of a failed open, or the run's.
-- Assumes nothing.
use Rattle.std.proofs.Common.{subst, sym}
use Rattle.host_bill.specs.Promises.{BillPrinted}
use Rattle.host_bill.proofs.BillLaws.{bill_short, bill_refused, bill_run}
use Rattle.host_bill.proofs.lines.bill_lines.Goals as goal

pub returns-then-out-lt-ROOM : goal.returns-then-out-lt-ROOM
returns-then-out-lt-ROOM c = bill_short c.args.bill c.args.out.now c.args.opened c.if-out-lt-ROOM.true

pub returns-in-Ok : goal.returns-in-Ok
returns-in-Ok c =
    let a = c.args in
    let put = c.put_bill in
    subst (λ o. BillPrinted o a.bill a.out.now put.new.out put.result) (sym c.in-Ok.is)
    (bill_run a.bill a.out.now c.if-out-lt-ROOM.false put.new.out put.result c.in-Ok.run' put.ensures)

pub returns-in-Err : goal.returns-in-Err
returns-in-Err c =
    let a = c.args in
    let put = c.put_refused in
    subst (λ o. BillPrinted o a.bill a.out.now put.new.out put.result) (sym c.in-Err.is)
    (bill_refused a.bill a.out.now c.if-out-lt-ROOM.false put.new.out put.result c.in-Err.refusal c.from.result c.from.ensures
    put.ensures.put put.ensures.most)
