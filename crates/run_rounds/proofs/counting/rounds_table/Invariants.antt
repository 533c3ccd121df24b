use Rattle.run_rounds.proofs.TableLaws.{Filled}
use Rattle.run_rounds.proofs.counting.rounds_table.Given as goal

abbrev pub invariant-loop-place : goal.invariant-loop-place
invariant-loop-place l = Filled l.run l.report-items l.place
