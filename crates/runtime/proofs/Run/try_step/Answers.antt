use Rattle.std.proofs.Common.{refl, sym, subst, Some, Ok}
use Rattle.semantics.specs.Plan.{step}
use Rattle.steps.specs.Stepping.{with_made}
use Rattle.changes.specs.Calls.{CalledAs}
use Rattle.runtime.specs.View.{parts_of}
use Rattle.runtime.proofs.MethodLaws.{step_refused, step_no_number}
use Rattle.runtime.proofs.Run.try_step.Goals as goal

pub returns-in_err-own : goal.returns-in_err-own
returns-in_err-own c =
    step_no_number c.args.self.now c.args.task c.in_err-own.ensures.0 c.in_err-own.field-0.0 c.in_err-own.ensures.1
    c.from_residual.result c.from_residual.ensures.1

pub returns-in_err-change : goal.returns-in_err-change
returns-in_err-change c =
    let run = c.args.self.now in
    let refused = c.in_err-change.ensures in
    rw (refused.0, refused.1, refused.2)
    (step_refused run c.args.task c.in_err-change.field-0.0 (refused.3 (parts_of run) c.in_ok-own.ensures.1 refl)
    c.from_residual-in_err-change.result c.from_residual-in_err-change.ensures.1)

pub returns-in_default : goal.returns-in_default
returns-in_default c =
    let stepped = rw c.in_default.is at (c.in_ok-change.ensures.1 (parts_of c.args.self.now) c.in_ok-own.ensures.1 refl) in
    (rw c.put.ensures stepped.0, record { numbers = stepped.1; near = tt })

pub returns : goal.returns
returns c =
    let run = parts_of c.args.self.now in
    let fits = rw c.in-Some.is at c.in_ok-change.ensures.0 in
    let stepped = rw c.in-Some.is at (c.in_ok-change.ensures.1 run c.in_ok-own.ensures.1 refl) in
    let counted = subst (λ p. CalledAs step run c.args.task (Ok tt) (with_made (Some c.in-Some.made) p)) (sym c.put.ensures) stepped.0 in
    (rw c.put_made.ensures counted, record { numbers = stepped.1; near = fits.near })
