-- Task by task of the order: what is found, and what is still to come, are the round's calls. Assumes nothing.
use Rattle.std.proofs.Common.{Some, ◌≡◌, ◌<◌, refl, sym, ap, subst, ◌∙◌, arith, rules, length, get_or, replicate}
use Rattle.arrays.specs.Places.{unended}
use Rattle.runtime.specs.View.{parts_of}
use Rattle.run_rounds.specs.Looking.{SeenAs}
use Rattle.run_rounds.proofs.BatchLaws.{found_none, found_last, found_held, found_ready}
use Rattle.run_rounds.proofs.looking.round_calls.Goals.{After-from-place}
use Rattle.run_rounds.proofs.looking.round_calls.Goals as goal

-- each task looked at is one of the order
module _ (c : After-from-place) where
  inside : c.loop-task.task-index < length (unended c.args.run.order)
  inside = omega (arith, c.loop-task-test.true, ap length c.as_slice-task-items.ensures)

  item : get_or c.as_slice-task-items.result.now c.loop-task.task-index 0 ≡ get_or (unended c.args.run.order) c.loop-task.task-index 0
  item = ap (λ l. get_or l c.loop-task.task-index 0) c.as_slice-task-items.ensures

pub loop-task-init : goal.loop-task-init
loop-task-init c =
    let a = c.args in
    (found_none a.run a.workers (replicate 128 0) (replicate 128 0), refl, refl)

pub loop-task-preserved-in_default : goal.loop-task-preserved-in_default
loop-task-preserved-in_default c =
    let a = c.args in
    let l = c.loop-task in
    let b = l.batch in
    let inv = l.invariant in
    let step = (goal.at.loop-task-preserved-in_default c).After-from-place in (
      found_held a.run a.workers b.kinds b.tasks inv.1 inv.2 b.count l.task-index inv.0 (inside step) _ (item step)
          (subst (SeenAs (parts_of a.run) _) c.in_default.is c.next_seen.ensures),
      inv.1,
      inv.2,
    )

pub loop-task-preserved : goal.loop-task-preserved
loop-task-preserved c =
    let a = c.args in
    let l = c.loop-task in
    let b = l.batch in
    let inv = l.invariant in
    let step = (goal.at.loop-task-preserved c).After-from-place in
    let stored = c.from-in-loop-task in
    let seen = subst (SeenAs (parts_of a.run) _) c.in-Some.is c.next_seen.ensures in
    rw c.from-place.ensures (
      found_ready a.run a.workers b.kinds b.tasks inv.1 inv.2 b.count l.task-index inv.0 (inside step) stored.result (stored.ensures ∙ item step)
          c.in-Some.kind c.from.result c.from.ensures (subst (λ n. SeenAs (parts_of a.run) n (Some c.in-Some.kind)) (sym stored.ensures) seen)
          (omega (arith, c.from-place.ensures, c.if-workers-place.false)),
      search rules,
      search rules,
    )

pub returns-after-loop-task : goal.returns-after-loop-task
returns-after-loop-task c =
    let a = c.args in
    let l = c.loop-task in
    let b = l.batch in
    let inv = l.invariant in
    found_last a.run a.workers b.kinds b.tasks inv.1 inv.2 b.count l.task-index inv.0
    (omega (arith, c.loop-task-test.false, ap length c.as_slice-task-items.ensures))
