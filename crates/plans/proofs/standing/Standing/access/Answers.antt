use Rattle.std.proofs.Common.{Err, ap, ◌∙◌, rules}
use Rattle.ahead.specs.Ahead.{accesses_of}
use Rattle.plans.specs.declared.Stop.TheVariants.{Fault, Held}
use Rattle.plans.specs.Steps.{looking, AccessIn}
use Rattle.plans.proofs.StepLaws.{access_faults, access_free, access_held}
use Rattle.plans.proofs.standing.Standing.access.Goals as goal

pub returns-in_err-access_fault : goal.returns-in_err-access_fault
returns-in_err-access_fault c =
    let a = c.args in
    let s = a.self.now in
    let faults : AccessIn s.order.now.places s.modes.now s.task s.place a.location a.tested a.asked (Err (Fault c.in_err-access_fault.field-0.0)) =
    λ run.
    access_faults (looking s.order.now.places s.modes.now run) s.task s.place a.location a.tested a.asked c.own_mode.result c.own_mode.ensures
    c.access_fault.result c.access_fault.ensures c.in_err-access_fault.field-0.0 c.in_err-access_fault.was in
    search rules

pub returns-in_err-look : goal.returns-in_err-look
returns-in_err-look c =
    let a = c.args in
    let s = a.self.now in
    let held : AccessIn s.order.now.places s.modes.now s.task s.place a.location a.tested a.asked (Err (Held c.in_err-look.field-0.0)) =
    λ run.
    access_held (looking s.order.now.places s.modes.now run) s.task s.place a.location a.tested a.asked c.own_mode.result c.own_mode.ensures
    c.access_fault.result c.access_fault.ensures c.in_ok-access_fault.was _ (λ near. ap accesses_of c.as_slice.ensures ∙ c.wanted_at.ensures.one near)
    c.look.result c.look.ensures c.in_err-look.field-0.0 c.in_err-look.was in
    search rules

pub returns : goal.returns
returns c =
    let a = c.args in
    let s = a.self.now in
    λ run.
    access_free (looking s.order.now.places s.modes.now run) s.task s.place a.location a.tested a.asked c.own_mode.result c.own_mode.ensures
    c.access_fault.result c.access_fault.ensures c.in_ok-access_fault.was _ (λ near. ap accesses_of c.as_slice.ensures ∙ c.wanted_at.ensures.one near)
    c.look.result c.look.ensures c.in_ok-look.was
