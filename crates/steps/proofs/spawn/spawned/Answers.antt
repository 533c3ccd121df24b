-- Denied, no room, or the tasks made.
-- Assumes nothing.
use Rattle.std.proofs.Common.{◌≡◌, get_or, set, rules, arith}
use Rattle.tasklist.specs.TaskList.{footprint_of}
use Rattle.tasklist.specs.Tables.{list_of}
use Rattle.semantics.specs.Run.{no_modes}
use Rattle.semantics.specs.Footprint.{granted}
use Rattle.arrays.specs.Rows.{row}
use Rattle.grants.specs.Grants.{grant_of, child_grant, grants_from}
use Rattle.tables.specs.Numbers.{number_by}
use Rattle.steps.proofs.MakeLaws.{denied_step, full_step, made_step}
use Rattle.steps.proofs.spawn.spawned.Goals.{After-granted_all, After-task_count}
use Rattle.steps.proofs.spawn.spawned.Goals as goal

-- what is granted, by the registers that the foremost child has
grants :
    (c : After-granted_all)
    → let a = c.args in
    let m = a.spawning in
    grant_of c.granted_all.result
    ≡ grants_from (child_grant (set a.own.registers 0 m.first) (row a.task a.modes.now) (footprint_of (list_of a.tables.now) m.footprint)) 0 m.children (granted no_modes)
grants c = rw (c.row_of-row.ensures c.requires, c.footprint_lines-lines.ensures.lines, c.from.ensures, c.holding-seen.ensures) at c.granted_all.ensures

-- the number of the foremost, and how far apart they are
first_is : (c : After-task_count) → let a = c.args in c.child_number.result ≡ number_by a.tables.now a.task a.own.body a.own.pc
first_is c = rw c.from-in-Ok.ensures at (c.child_number.ensures c.requires)

apart_is : (c : After-task_count) → c.task_count.result ≡ get_or c.args.tables.now.counts c.args.spawning.body 1
apart_is c = rw c.from-in-Ok-2.ensures at c.task_count.ensures

pub returns-in-Err : goal.returns-in-Err
returns-in-Err c =
    let a = c.args in
    rw (c.changed.ensures, c.failed.ensures, c.from-in-Err.ensures) (
      tt,
      λ run same light steps.
          denied_step _ a.task c.requires a.own same a.place a.weight light a.spawning steps c.granted_all.result
          (grants (goal.at.returns-in-Err c).After-granted_all) c.in-Err.fault c.in-Err.is,
    )

pub returns-then-not-fits : goal.returns-then-not-fits
returns-then-not-fits c =
    let a = c.args in
    let at = (goal.at.returns-then-not-fits c).After-task_count in
    rw c.changed-after.ensures (
      tt,
      λ run same light steps.
          full_step _ a.task c.requires a.own same a.place a.weight light a.spawning steps c.granted_all.result
          (grants (goal.at.returns-then-not-fits c).After-granted_all) c.in-Ok.last c.in-Ok.is
          c.child_number.result c.task_count.result (first_is at) (apart_is at) (c.fits.ensures.1 c.if-not-fits.true) c.passed.result,
    )

pub returns-else-not-fits : goal.returns-else-not-fits
returns-else-not-fits c =
    let a = c.args in
    let at = (goal.at.returns-else-not-fits c).After-task_count in
    let fit = c.fits.ensures.0 c.if-not-fits.false in
    let put = rw (c.row_of-row.ensures c.requires, c.footprint_lines-lines.ensures.lines, c.from.ensures, c.holding-seen.ensures) at c.put_children.ensures.rows_put in
    rw (c.changed-after.ensures, c.passed.ensures.0, c.newborn.ensures, c.holding-seen.ensures) (
      record { few = omega (arith, fit.places); near = fit.near },
      λ run same light steps.
          made_step _ a.task c.requires a.own same a.place a.weight light a.spawning steps c.granted_all.result
          (grants (goal.at.returns-else-not-fits c).After-granted_all) c.in-Ok.last c.in-Ok.is
          c.child_number.result c.task_count.result (first_is at) (apart_is at)
          c.put_children.new.modes c.put_children.new.order put c.put_children.ensures.places_put (search rules),
    )
