use Rattle.std.proofs.Common.{refl}
use Rattle.semantics.specs.Plan.{«end»}
use Rattle.runtime.specs.View.{parts_of}
use Rattle.runtime.proofs.MethodLaws.{made_refused, made_no_number}
use Rattle.runtime.proofs.Run.try_end.Goals as goal

pub returns-in_err-own : goal.returns-in_err-own
returns-in_err-own c =
    made_no_number «end» c.args.self.now c.args.task c.in_err-own.ensures.0 c.in_err-own.field-0.0 c.in_err-own.ensures.1
    c.from_residual.result c.from_residual.ensures.1

pub returns-in_err-change : goal.returns-in_err-change
returns-in_err-change c =
    let run = c.args.self.now in
    let refused = c.in_err-change.ensures in
    rw refused.0
    (made_refused «end» run c.args.task c.in_err-change.field-0.0
    (refused.1 (parts_of run) c.in_ok-own.ensures.1 refl c.body_size-size.ensures.size)
    c.from_residual-in_err-change.result c.from_residual-in_err-change.ensures.1)

pub returns : goal.returns
returns c = rw c.put.ensures (c.in_ok-change.ensures (parts_of c.args.self.now) c.in_ok-own.ensures.1 refl c.body_size-size.ensures.size)
