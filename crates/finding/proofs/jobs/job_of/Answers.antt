-- What the levels still to go down give.
-- Assumes nothing.
use Rattle.std.proofs.Common.{◌≡◌, arith, rules, subst, sym}
use Rattle.finding.proofs.JobLaws.{Reached, reached_none, reached_below, reached_it, reached_all}
use Rattle.finding.specs.Jobs.{first_job}
use Rattle.finding.proofs.jobs.job_of.Goals as goal

pub loop-depth-init : goal.loop-depth-init
loop-depth-init c =
    let first : c.default-job.result ≡ first_job = search rules in
    subst (Reached c.args.tables.now c.args.k 0) (sym first) (reached_none c.args.tables.now c.args.k)

pub returns-then-k-job : goal.returns-then-k-job
returns-then-k-job c =
    let at = c.loop-depth in
    reached_it c.args.tables.now c.args.k at.depth at.job (omega arith) (omega arith) at.invariant

pub loop-depth-preserved : goal.loop-depth-preserved
loop-depth-preserved c =
    let at = c.loop-depth in
    reached_below c.args.tables.now c.args.k at.depth at.job c.holder_of-job.result (omega arith) (omega arith) c.holder_of-job.ensures at.invariant

pub returns : goal.returns
returns c =
    let at = c.loop-depth in
    reached_all c.args.tables.now c.args.k at.depth at.job (omega arith) at.invariant
