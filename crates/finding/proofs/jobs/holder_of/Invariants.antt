-- The blocks of the instructions before `place` end at k or below.
-- Assumes nothing.
use Rattle.finding.proofs.JobLaws.{Passed}
use Rattle.finding.proofs.jobs.holder_of.Given as goal

abbrev pub invariant-loop-place : goal.invariant-loop-place
invariant-loop-place l = Passed l.tables l.job l.k l.number l.place
