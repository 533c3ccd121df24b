-- Digits before the byte made the number.
-- Assumes nothing.
use Rattle.host_bill.proofs.ArgumentLaws.{Digits}
use Rattle.host_bill.proofs.argument.pence_in.Given as goal

abbrev pub invariant-loop-byte : goal.invariant-loop-byte
invariant-loop-byte l = Digits l.text l.number l.byte-index
