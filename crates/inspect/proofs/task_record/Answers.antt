-- The task's record and row, whatever the run. Assumes nothing.
use Rattle.std.proofs.Common.{◌≡◌, ◌<◌, sym, ap, ◌∙◌, rules, length, arith}
use Rattle.std.proofs.lemmas.Result.{err_from_is_err_and}
use Rattle.semantics.specs.Operations.{record_asked}
use Rattle.runtime.specs.View.{model}
use Rattle.runtime.specs.Asked.{recorded}
use Rattle.inspect.proofs.AskLaws.{record_refused, record_given}
use Rattle.inspect.proofs.task_record.Goals as goal

pub returns-in_err-number_of : goal.returns-in_err-number_of
unfolding recorded
returns-in_err-number_of c =
    let p = err_from_is_err_and c.from_residual.result c.from_residual.ensures.1 in
    rw (p.1, p.2, c.in_err-number_of.ensures.0) (sym (record_refused c.args.run c.args.task c.in_err-number_of.ensures.1))

pub returns : goal.returns
unfolding recorded
returns c =
    let run = c.args.run in
    let n = c.from-n.result in
    let whole : length run.records ≡ 128 = search rules in
    let below : n < 128 = omega (arith, c.from-n.ensures, c.in_ok-number_of.ensures.1) in
    record_given run n c.row_of.result below whole (c.row_of.ensures below) ∙ ap (record_asked (model run)) (c.from-n.ensures ∙ c.in_ok-number_of.ensures.0)
