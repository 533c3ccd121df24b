-- The workers are tested, then open is asked, then the rounds are counted twice. Assumes nothing.
use Rattle.std.proofs.Common.{sym, subst, arith, ◌<◌, ◌^◌}
use Rattle.std.specs.Result.{OkIff}
use Rattle.std.proofs.lemmas.Result.{err_from_is_err_and}
use Rattle.run_rounds.specs.Looking.{TallyOf}
use Rattle.run_rounds.proofs.ReportLaws.{too_few, too_many, not_opened, reports_with}
use Rattle.run_rounds.proofs.counting.publication_rounds.Goals as goal

pub returns-in_default : goal.returns-in_default
returns-in_default c =
    let a = c.args in
    too_few a.workers a.list.now a.memory.now a.weights.now (omega arith)

pub returns-in_default-2 : goal.returns-in_default-2
returns-in_default-2 c =
    let a = c.args in
    too_many a.workers a.list.now a.memory.now a.weights.now (omega arith)

pub returns-in_default-3 : goal.returns-in_default-3
returns-in_default-3 c =
    let wide = subst (λ r. OkIff r (c.args.workers < 2 ^ 64) c.args.workers) c.in_default.is c.try_from.ensures in
    absurd (omega (arith, wide))

pub returns-in_err-fresh : goal.returns-in_err-fresh
returns-in_err-fresh c =
    let a = c.args in
    let p = err_from_is_err_and c.from_residual.result c.from_residual.ensures.1 in
    rw (p.1, p.2)
    (not_opened a.workers a.list.now a.memory.now a.weights.now (omega arith) (omega arith)
    c.in_err-fresh.field-0.0 c.in_err-fresh.ensures)

pub returns : goal.returns
returns c =
    let a = c.args in
    sym
    (reports_with a.workers a.list.now a.memory.now a.weights.now (omega arith) (omega arith)
    c.in_ok-fresh.fresh c.in_ok-fresh.ensures c.tally-asked.result c.tally-whole.result (subst (λ n. TallyOf c.in_ok-fresh.fresh n c.tally-asked.result) c.in-Ok-1-to-16.ensures.1 c.tally-asked.ensures) c.tally-whole.ensures)
