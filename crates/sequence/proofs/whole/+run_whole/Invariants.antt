use Rattle.std.proofs.Common.{◌+◌}
use Rattle.sequence.proofs.SequentialLaws.{StepsLeft, EachLeft}
use Rattle.sequence.proofs.whole.+run_whole.Given as goal

abbrev pub decreases-run_whole : goal.decreases-run_whole
decreases-run_whole l = l.bodies

abbrev pub invariant-loop-i : goal.invariant-loop-i
invariant-loop-i l = EachLeft l.bodies l.made.first l.made.apart l.made.children l.initial.run l.i l.run

abbrev pub invariant-loop-left : goal.invariant-loop-left
invariant-loop-left l = StepsLeft l.bodies l.task (l.size + 1) l.initial.run l.left l.run
