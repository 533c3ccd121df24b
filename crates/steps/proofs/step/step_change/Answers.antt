-- Refused before the instruction is looked at, or what the plan of the instruction comes to.
-- Assumes nothing.
use Rattle.std.proofs.Common.{◌*◌, length, get_or, ap, rules}
use Rattle.tasklist.specs.TaskList.{blank_instruction, instruction_of}
use Rattle.semantics.specs.Call.{edited}
use Rattle.steps.proofs.StepChangeLaws.{StepsBy, steps_by, change_before, change_held, change_fault, change_assign, change_pass, change_store, change_sum, change_make}
use Rattle.steps.proofs.step.step_change.Goals.{After-plan_of}
use Rattle.steps.proofs.step.step_change.Goals as goal

-- what the plan of the instruction says
there :
    (c : After-plan_of)
    → let a = c.args in
    StepsBy a.tables.now a.memory.now a.modes.now a.order.now a.own a.task a.weights c.in_ok-place.place
    (c.units_of.result * c.weight_at.result) c.plan_of.result
unfolding instruction_of
there c =
    let a = c.args in
    let held = rw c.from.ensures at c.body_instructions-instructions.ensures.instructions in
    steps_by a.tables.now a.memory.now a.modes.now a.order.now a.own a.task a.weights _ (ap length held) c.in_ok-place.place c.in_ok-place.ensures
    _ (ap (λ l. get_or l a.own.pc blank_instruction) held)
    c.code_of-code.result c.code_of-code.ensures.0 c.plan_of.result c.plan_of.ensures
    c.units_of.result c.units_of.ensures.0 c.units_of.ensures.1
    c.weight_at.result c.weight_at.ensures.0 c.weight_at.ensures.1

pub returns-in_err-place : goal.returns-in_err-place
returns-in_err-place c =
    let a = c.args in
    let held = rw c.from.ensures at c.body_instructions-instructions.ensures.instructions in
    let refused =
    change_before a.tables.now a.memory.now a.modes.now a.order.now a.own a.task a.weights _ (ap length held) c.in_err-place.field-0.0 c.in_err-place.ensures in
    search rules

pub returns-in-Err-Held : goal.returns-in-Err-Held
returns-in-Err-Held c =
    let by = rw (c.in-Err-Held.is, c.in-Err-Held.field-0-is) at (there (goal.at.returns-in-Err-Held c).After-plan_of) in
    rw c.in-Err-Held.refusal-is (change_held _ by)

pub returns-in-Err-Fault : goal.returns-in-Err-Fault
returns-in-Err-Fault c =
    let by = rw (c.in-Err-Fault.is, c.in-Err-Fault.field-0-is) at (there (goal.at.returns-in-Err-Fault c).After-plan_of) in
    rw (c.changed.ensures, c.failed.ensures, c.from-in-Err-Fault.ensures, c.in-Err-Fault.fault-is) (change_fault _ by)

pub returns-in-Ok-Assign : goal.returns-in-Ok-Assign
returns-in-Ok-Assign c =
    let by = rw (c.in-Ok-Assign.is, c.in-Ok-Assign.field-0-is) at (there (goal.at.returns-in-Ok-Assign c).After-plan_of) in
    rw (c.changed-in-Ok-Assign.ensures, c.holding.ensures, c.passed.ensures.0) (change_assign _ _ by)

pub returns-in-Ok-Pass : goal.returns-in-Ok-Pass
returns-in-Ok-Pass c =
    let by = rw (c.in-Ok-Pass.is, c.in-Ok-Pass.field-0-is) at (there (goal.at.returns-in-Ok-Pass c).After-plan_of) in
    rw (c.changed-in-Ok-Pass.ensures, c.passed-in-Ok-Pass.ensures.0) (change_pass _ c.passed-in-Ok-Pass.ensures.1 by)

pub returns-in-Ok-Store : goal.returns-in-Ok-Store
unfolding edited
returns-in-Ok-Store c =
    let by = rw (c.in-Ok-Store.is, c.in-Ok-Store.field-0-is) at (there (goal.at.returns-in-Ok-Store c).After-plan_of) in
    rw (c.changed-in-Ok-Store.ensures, c.passed-in-Ok-Store.ensures.0, c.store.ensures) (change_store _ _ by)

pub returns-in-Ok-Sum : goal.returns-in-Ok-Sum
returns-in-Ok-Sum c =
    let by = rw (c.in-Ok-Sum.is, c.in-Ok-Sum.field-0-is) at (there (goal.at.returns-in-Ok-Sum c).After-plan_of) in
    rw (c.changed-in-Ok-Sum.ensures, c.passed-in-Ok-Sum.ensures.0, c.sum.ensures) (change_sum _ _ by)

pub returns-in-Ok-Make : goal.returns-in-Ok-Make
returns-in-Ok-Make c =
    let by = rw (c.in-Ok-Make.is, c.in-Ok-Make.field-0-is) at (there (goal.at.returns-in-Ok-Make c).After-plan_of) in
    change_make _ by c.spawned.new.modes c.spawned.new.order c.spawned.result c.spawned.ensures
