-- No such task, none in the order, or its search. Assumes nothing.
use Rattle.std.proofs.Common.{◌≡◌, ap, ◌∙◌, rules, length, Some, None}
use Rattle.semantics.specs.declared.CallRefusal.TheVariants.{Absent}
use Rattle.std.proofs.lemmas.Result.{err_from_is_err_and}
use Rattle.semantics.specs.Operations.{search_asked}
use Rattle.runtime.specs.View.{model}
use Rattle.ahead.specs.Ahead.{searched_ahead, accesses_of}
use Rattle.inspect.proofs.AskLaws.{search_beyond, search_absent, search_given}
use Rattle.inspect.proofs.task_search.Goals as goal

pub returns-in_err-number : goal.returns-in_err-number
returns-in_err-number c =
    let p = err_from_is_err_and c.from_residual.result c.from_residual.ensures.1 in
    rw (p.1, p.2, c.in_err-number.ensures.0) (search_beyond c.args.run c.args.task (accesses_of c.args.wanted.now) c.in_err-number.ensures.1)

pub returns-in_err-at : goal.returns-in_err-at
returns-in_err-at c =
    let a = c.args in
    let gs = accesses_of a.wanted.now in
    let n = c.in_ok-number in
    let p = err_from_is_err_and c.from_residual-in_err-at.result c.from_residual-in_err-at.ensures.1 in
    let none : c.position.result ≡ None = search rules in
    let absent : c.in_err-at.field-0.0 ≡ Absent = search rules in
    rw (p.1, p.2, absent) (search_absent a.run n.number gs n.ensures.1 c.position.result c.position.ensures none ∙ ap (λ k. search_asked (model a.run) k gs) n.ensures.0)

pub returns : goal.returns
returns c =
    let a = c.args in
    let gs = accesses_of a.wanted.now in
    let n = c.in_ok-number in
    let some : c.position.result ≡ Some c.in_ok-at.at = search rules in
    let records : length a.run.records ≡ 128 = search rules in
    let modes : length a.run.modes ≡ 8192 = search rules in
    search_given a.run n.number gs n.ensures.1 c.position.result c.position.ensures c.in_ok-at.at some records modes c.search_ahead.result
    (c.search_ahead.ensures ∙ ap (λ l. searched_ahead a.run.modes l gs) c.front.ensures)
    ∙ ap (λ k. search_asked (model a.run) k gs) n.ensures.0
