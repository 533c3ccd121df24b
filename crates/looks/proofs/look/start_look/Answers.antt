use Rattle.std.proofs.Common.{◌≡◌, Err, take, ap, ◌∙◌, rules}
use Rattle.semantics.specs.Plan.{start}
use Rattle.ahead.specs.Ahead.{past, accesses_of, hold_ahead, searched_ahead}
use Rattle.looks.specs.Looks.{StartIn, with_parts}
use Rattle.looks.proofs.LookLaws.{start_again, start_free, start_held}
use Rattle.looks.proofs.look.start_look.Goals as goal
use Rattle.looks.proofs.look.start_look.Goals.{After-answer}

pub returns-in_err-place : goal.returns-in_err-place
returns-in_err-place c =
    let a = c.args in
    let refused : StartIn a.order.now a.modes.now a.own a.task (Err c.in_err-place.field-0.0) =
    λ run same s. c.in_err-place.ensures (with_parts run.tables run.memory a.modes.now a.order.now.places a.order.now.left run) s start in
    search rules

pub returns-then-own-ne1 : goal.returns-then-own-ne1
returns-then-own-ne1 c =
    let a = c.args in
    start_again a.order.now a.task c.in_ok-place.place a.own c.in_ok-place.ensures a.modes.now c.if-own-ne1.true

-- what the search of the tasks ahead is answered
looked :
    (c : After-answer)
    → c.answer.result ≡ past (hold_ahead c.args.modes.now (take c.in_ok-place.place c.args.order.now.places) (accesses_of c.as_slice.result.now))
unfolding searched_ahead
looked c = rw (← c.front.ensures, c.answer.ensures) (ap (λ f. past f.hold) c.search_ahead-found.ensures)

pub returns-in_err-answer : goal.returns-in_err-answer
returns-in_err-answer c =
    let a = c.args in
    let held =
    start_held a.order.now a.task c.in_ok-place.place a.own c.in_ok-place.ensures a.modes.now c.if-own-ne1.false _
    (λ below. ap accesses_of c.as_slice.ensures ∙ c.wanted_of-wanted.ensures below) c.answer.result
    (looked (goal.at.returns-in_err-answer c).After-answer) c.in_err-answer.field-0.0 c.in_err-answer.was in
    search rules

pub returns : goal.returns
returns c =
    let a = c.args in
    start_free a.order.now a.task c.in_ok-place.place a.own c.in_ok-place.ensures a.modes.now c.if-own-ne1.false _
    (λ below. ap accesses_of c.as_slice.ensures ∙ c.wanted_of-wanted.ensures below) c.answer.result
    (looked (goal.at.returns c).After-answer) c.in_ok-answer.was
