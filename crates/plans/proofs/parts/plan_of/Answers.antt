use Rattle.std.proofs.Common.{rules, arith}
use Rattle.plans.proofs.CodeLaws.{never_waits, may_wait}
use Rattle.plans.proofs.StepLaws.{load_ends, store_ends, wait_ends, wait_goes, sum_ends, sum_goes}
use Rattle.plans.proofs.parts.plan_of.Goals as goal

pub returns-in_err-access-in-Load : goal.returns-in_err-access-in-Load
returns-in_err-access-in-Load c =
    let s = c.args.standing.now in
    let stopped = load_ends s.order.now.places s.modes.now c.args.memory.now c.args.registers s.task s.place s.within c.in-Load.target c.in-Load.from c.location_at-location.result c.location_at-location.ensures c.in_err-access-in-Load.field-0.0 c.in_err-access-in-Load.ensures in
    rw c.in-Load.is (search rules)

pub returns-in_err-access-in-Store : goal.returns-in_err-access-in-Store
returns-in_err-access-in-Store c =
    let s = c.args.standing.now in
    let stopped = store_ends s.order.now.places s.modes.now c.args.memory.now c.args.registers s.task s.place s.within c.in-Store.to c.in-Store.source c.location_at-location-in-Store.result c.location_at-location-in-Store.ensures c.in_err-access-in-Store.field-0.0 c.in_err-access-in-Store.ensures in
    rw c.in-Store.is (search rules)

pub returns-in_err-access-in-Wait : goal.returns-in_err-access-in-Wait
returns-in_err-access-in-Wait c =
    let s = c.args.standing.now in
    let stopped = wait_ends s.order.now.places s.modes.now c.args.memory.now c.args.registers s.task s.place s.within c.location_at-location-in-Wait.result c.own_mode-asked.result c.own_mode-asked.ensures c.in-Wait.at c.location_at-location-in-Wait.ensures c.in_err-access-in-Wait.field-0.0 c.in_err-access-in-Wait.ensures in
    rw c.in-Wait.is (search rules)

pub returns-in_ok-access-in-Wait : goal.returns-in_ok-access-in-Wait
returns-in_ok-access-in-Wait c =
    let s = c.args.standing.now in
    rw c.in-Wait.is (wait_goes s.order.now.places s.modes.now c.args.memory.now c.args.registers s.task s.place s.within c.location_at-location-in-Wait.result c.own_mode-asked.result c.own_mode-asked.ensures c.in-Wait.at c.location_at-location-in-Wait.ensures c.in_ok-access-in-Wait.ensures)

pub returns-in_err-access-in-Sum : goal.returns-in_err-access-in-Sum
returns-in_err-access-in-Sum c =
    let s = c.args.standing.now in
    let stopped = sum_ends s.order.now.places s.modes.now c.args.memory.now c.args.registers s.task s.place s.within c.location_at-location-in-Sum.result c.own_mode-asked-in-Sum.result c.own_mode-asked-in-Sum.ensures c.in-Sum.to c.in-Sum.source c.location_at-location-in-Sum.ensures c.in_err-access-in-Sum.field-0.0 c.in_err-access-in-Sum.ensures in
    rw c.in-Sum.is (search rules)

pub returns-in_ok-access-in-Sum : goal.returns-in_ok-access-in-Sum
returns-in_ok-access-in-Sum c =
    let s = c.args.standing.now in
    rw c.in-Sum.is (sum_goes s.order.now.places s.modes.now c.args.memory.now c.args.registers s.task s.place s.within c.location_at-location-in-Sum.result c.own_mode-asked-in-Sum.result c.own_mode-asked-in-Sum.ensures c.in-Sum.to c.in-Sum.source c.location_at-location-in-Sum.ensures c.register_at-in-Sum.result c.register_at-in-Sum.ensures c.in_ok-access-in-Sum.ensures)

pub unreachable-requires : goal.unreachable-requires
unreachable-requires c =
    let code = c.code_of.result in
    let i = c.in_default-instruction in
    never_waits c.args.instruction code c.code_of.ensures.0 (grind arith) (grind arith) (grind arith) (grind arith)
    i.not-Const i.not-Add i.not-Sub i.not-Less i.not-Skip i.not-Spawn i.not-Fan i.not-Mul i.not-Div

pub unreachable-requires-in_default-instruction-2 : goal.unreachable-requires-in_default-instruction-2
unreachable-requires-in_default-instruction-2 c =
    let code = c.code_of.result in
    let i = c.in_default-instruction-2 in
    may_wait c.args.instruction code c.code_of.ensures.0 (grind arith) (grind arith) (grind arith) (grind arith) (grind arith)
    (grind arith) i.not-Load i.not-Store i.not-Wait i.not-Sum
