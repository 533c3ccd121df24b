-- The lines of the first wards are put.
-- Assumes nothing.
use Rattle.std.proofs.Common.{arith}
use Rattle.std.proofs.lemmas.List.{length_push}
use Rattle.std.proofs.lemmas.Iterator.Consumers.{YieldsList-turn, YieldsList-end}
use Rattle.wording.proofs.JoinedLaws.{joined_none, joined_more, joined_all}
use Rattle.host_bill.proofs.LineLaws.{yields_beside, beside_most, lines_joined}
use Rattle.host_bill.proofs.lines.put_wards.Goals as goal

pub loop-number-init : goal.loop-number-init
loop-number-init c = joined_none _ _ _ _ _

pub put_line-stop-requires : goal.put_line-stop-requires
put_line-stop-requires c =
    let a = c.args in
    let l = c.loop-number in
    let turn = YieldsList-turn (yields_beside a.numbers.now a.weights.now a.pence.now c.into_iter-number-iterator.result (cc) (cc) (cc)) l.yielded l.number-iterator l.yielded_by _ c.next.new.self _ c.in-Some.is c.next.ensures.steps in
    omega (arith, l.invariant.few, l.invariant.put.long, turn.0, beside_most a.numbers.now a.weights.now a.pence.now, c.requires)

pub loop-number-preserved : goal.loop-number-preserved
loop-number-preserved c =
    let a = c.args in
    let l = c.loop-number in
    let turn = YieldsList-turn (yields_beside a.numbers.now a.weights.now a.pence.now c.into_iter-number-iterator.result (cc) (cc) (cc)) l.yielded l.number-iterator l.yielded_by _ c.next.new.self _ c.in-Some.is c.next.ensures.steps in
    joined_more _ _ _ _ _ l.invariant turn.0 ((c.in-Some.number.now, c.in-Some.weight.now), c.in-Some.pence.now) (rw (← turn.1) (rw (← c.from.ensures) c.put_line-stop.ensures.put)) (omega (arith, c.put_line-stop.ensures.most)) (length_push _ _)

pub returns : goal.returns
returns c =
    let a = c.args in
    let l = c.loop-number in
    let last = YieldsList-end (yields_beside a.numbers.now a.weights.now a.pence.now c.into_iter-number-iterator.result (cc) (cc) (cc)) l.yielded l.number-iterator l.yielded_by _ c.next.new.self c.in-None.is c.next.ensures.steps in
    let all = joined_all _ _ _ _ _ l.invariant (omega (arith, last.1)) in
    record { put = rw (← lines_joined a.numbers.now a.weights.now a.pence.now) all.0; most = omega (arith, all.1, beside_most a.numbers.now a.weights.now a.pence.now) }
