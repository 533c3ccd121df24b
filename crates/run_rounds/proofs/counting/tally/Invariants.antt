use Rattle.run_rounds.proofs.TallyLaws.{Counting}
use Rattle.run_rounds.proofs.counting.tally.Given as goal

abbrev pub invariant-loop-rounds : goal.invariant-loop-rounds
invariant-loop-rounds l = Counting l.initial.run l.workers l.run l.rounds l.calls
