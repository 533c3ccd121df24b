-- The lines of the first wards are put.
-- Assumes nothing.
use Rattle.std.proofs.Common.{length}
use Rattle.wording.proofs.JoinedLaws.{JoinedPut}
use Rattle.host_bill.proofs.LineLaws.{ward_line, beside}
use Rattle.host_bill.proofs.lines.put_wards.Given as goal

abbrev pub invariant-loop-number : goal.invariant-loop-number
invariant-loop-number l = JoinedPut ward_line 50 (beside l.fn.numbers l.fn.weights l.fn.pence) l.initial.out 0 l.out l.stop (length l.yielded)
