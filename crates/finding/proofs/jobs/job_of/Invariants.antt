-- What the levels still to go down give.
-- Assumes nothing.
use Rattle.finding.proofs.JobLaws.{Reached}
use Rattle.finding.proofs.jobs.job_of.Given as goal

abbrev pub invariant-loop-depth : goal.invariant-loop-depth
invariant-loop-depth l = Reached l.tables l.k l.depth l.job
