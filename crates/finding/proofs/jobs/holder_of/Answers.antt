-- The blocks of the instructions before `place` end at k or below.
-- Assumes nothing.
use Rattle.std.proofs.Common.{length, get_or, ap, arith}
use Rattle.tasklist.specs.TaskList.{instruction_of, blank_instruction}
use Rattle.finding.proofs.JobLaws.{passed_none, passed_next, passed_found, passed_all}
use Rattle.finding.proofs.jobs.holder_of.Goals as goal

pub loop-place-init : goal.loop-place-init
loop-place-init c = passed_none _ _ _ c.requires.number_lt_k

pub returns-then-k-next : goal.returns-then-k-next
unfolding instruction_of
returns-then-k-next c =
    let a = c.args in
    let at = c.loop-place in
    let body = c.body_instructions-instructions in
    let size = ap length body.ensures.instructions in
    passed_found a.tables.now a.job a.k at.number at.place c.added.result a.depth _ c.made_by.result c.made_by.ensures (omega arith) (ap (λ is. get_or is at.place blank_instruction) body.ensures.instructions) c.added.ensures.sum (omega arith) at.invariant

pub loop-place-preserved : goal.loop-place-preserved
unfolding instruction_of
loop-place-preserved c =
    let a = c.args in
    let at = c.loop-place in
    let body = c.body_instructions-instructions in
    let size = ap length body.ensures.instructions in
    passed_next a.tables.now a.job a.k at.number at.place c.added.result _ (omega arith) (ap (λ is. get_or is at.place blank_instruction) body.ensures.instructions) c.added.ensures.sum (omega arith) at.invariant

pub returns : goal.returns
returns c =
    let a = c.args in
    let at = c.loop-place in
    let size = ap length c.body_instructions-instructions.ensures.instructions in
    passed_all a.tables.now a.job a.k at.number at.place a.depth (omega arith) at.invariant
