use Rattle.wording.specs.Wording.{line}
use Rattle.wording.proofs.JoinedLaws.{JoinedPut}
use Rattle.wording.proofs.closing.put_memory.Given as goal

abbrev pub invariant-loop-number : goal.invariant-loop-number
invariant-loop-number l = JoinedPut line 11 l.number-items l.initial.out 0 l.out l.at l.number-index
