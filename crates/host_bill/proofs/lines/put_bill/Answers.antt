-- The line of a refusal, or the wards' lines and the sums.
-- Assumes nothing.
use Rattle.std.proofs.Common.{arith}
use Rattle.std.proofs.lemmas.Grind.{common_steps}
use Rattle.host_bill.proofs.BillLaws.{printed_refused, printed_shared}
use Rattle.host_bill.proofs.lines.put_bill.Goals as goal

pub returns-in-Err : goal.returns-in-Err
returns-in-Err c =
    let billed = c.shares in
    let put = c.put_refused in
    printed_refused c.args.run c.args.bill billed.result billed.new.out billed.ensures c.args.out.now c.requires
    c.in-Err.refusal c.in-Err.is c.from.result c.from.ensures put.new.out put.result put.ensures.put put.ensures.most

pub returns : goal.returns
returns c =
    let billed = c.shares in
    let wards = c.wards_of-wards in
    let lines = c.put_wards-at in
    let last = c.put_line in
    printed_shared c.args.run c.args.bill billed.result billed.new.out billed.ensures c.args.out.now c.requires
    c.in_default.field-0 c.in_default.is wards.result wards.ensures c.unwrap_or-whole.result
    (λ h. grind (arith, common_steps))
    lines.ensures.put lines.ensures.most _ (grind (arith, common_steps)) last.new.out last.result
    last.ensures.put (omega (arith, last.ensures.most))
