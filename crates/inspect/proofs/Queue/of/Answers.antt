-- Task by task from the front. Assumes nothing.
use Rattle.std.proofs.Common.{◌≤◌, ap, refl, ◌∙◌, arith, length, get_or, length-take, length-set, take_all}
use Rattle.arrays.specs.Rows.{row}
use Rattle.tasklist.specs.Encode.{joined}
use Rattle.runtime.specs.Parts.{shown_at}
use Rattle.inspect.proofs.AskLaws.{passed_over, place_put}
use Rattle.inspect.proofs.Queue.of.Goals.{After-as_slice-task-items, in-Some, in_default}
use Rattle.inspect.proofs.Queue.of.Goals as goal

few : (c : After-as_slice-task-items) → length c.as_slice-task-items.result.now ≤ 128
few c =
    let order = c.args.run.now.order in
    omega (arith, ap length c.as_slice-task-items.ensures, length-take order.left order.places, order.whole)

pub loop-task-init : goal.loop-task-init
unfolding joined
loop-task-init c = (omega arith, refl, refl)

pub bounds-places-count : goal.bounds-places-count
bounds-places-count c =
    omega (arith, c.loop-task.invariant.0, few (goal.at.bounds-places-count c).After-as_slice-task-items)

pub loop-task-preserved : goal.loop-task-preserved
loop-task-preserved c =
    let run = c.args.run.now in
    let at = c.loop-task in
    let order = c.as_slice-task-items.result.now in
    let mode = c.mode_at-mode.result in
    let here = c.mode_at-mode.ensures ∙ ap (λ k. get_or (row k run.modes) c.args.location 0) c.from.ensures in
    elim c.match-shown.branch [
      | in-Some w ↦
          rw (w.count-is, w.places-is) (
            omega (arith, at.invariant.0),
            length-set at.places at.count _ ∙ at.invariant.1,
            place_put run c.args.location order at.places at.count at.task-index mode c.loop-task-test.true here at.invariant.2 w.in-Some.place w.in-Some.ensures
                (omega (arith, at.invariant.0, at.invariant.1, few (goal.at.loop-task-preserved c).After-as_slice-task-items)),
          )
      | in_default w ↦
          rw (w.count-is, w.places-is) (
            omega (arith, at.invariant.0),
            at.invariant.1,
            passed_over run c.args.location order at.places at.count at.task-index mode c.loop-task-test.true here at.invariant.2 w.in_default.ensures,
          )
    ]

pub returns : goal.returns
returns c =
    let order = c.as_slice-task-items.result.now in
    c.loop-task.invariant.2 ∙ ap (joined (shown_at c.args.run.now c.args.location)) (take_all c.loop-task.task-index order c.loop-task-test.false ∙ c.as_slice-task-items.ensures)
