use Rattle.std.proofs.Common.{arith}
use Rattle.semantics.specs.Plan.{start, «end»}
use Rattle.runtime.proofs.CallLaws.{call_made, step_made}
use Rattle.runtime.proofs.MadeLaws.{kind_start, kind_step, kind_end, kind_none}
use Rattle.sequence.proofs.replaying.called.Goals as goal

pub returns-in-0 : goal.returns-in-0
returns-in-0 c =
    let a = c.args in
    let done = c.try_start-answer in
    kind_start a.run.now a.kind a.task c.in-0.is done.new.self (call_made start a.run.now a.task done.result done.new.self done.ensures)

pub returns-in-1 : goal.returns-in-1
returns-in-1 c =
    let a = c.args in
    let done = c.try_step-answer in
    kind_step a.run.now a.kind a.task c.in-1.is done.new.self (step_made a.run.now a.task done.result done.new.self done.ensures)

pub returns-in-2 : goal.returns-in-2
returns-in-2 c =
    let a = c.args in
    let done = c.try_end-answer in
    kind_end a.run.now a.kind a.task c.in-2.is done.new.self (call_made «end» a.run.now a.task done.result done.new.self done.ensures)

pub returns-in_default : goal.returns-in_default
returns-in_default c = kind_none c.args.run.now c.args.kind c.args.task (omega arith) (omega arith) (omega arith)
