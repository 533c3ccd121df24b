use Rattle.wording.specs.Wording.{line}
use Rattle.wording.proofs.JoinedLaws.{JoinedPut}
use Rattle.transcript.proofs.pieces.put_lines.Given as goal

abbrev pub invariant-loop-answer : goal.invariant-loop-answer
invariant-loop-answer l = JoinedPut line 4 l.answers l.initial.out 0 l.out l.at l.answer-index
