-- Each number on a line of its own, a byte's of 4 bytes at most.
-- Assumes nothing.
use Rattle.std.proofs.Common.{◌<◌, arith, rules, refl}
use Rattle.wording.proofs.DigitLaws.{byte_line_most}
use Rattle.wording.proofs.PutLaws.{put_by}
use Rattle.wording.proofs.JoinedLaws.{joined_none, joined_more, joined_all}
use Rattle.transcript.proofs.pieces.put_lines.Goals as goal

pub loop-answer-init : goal.loop-answer-init
loop-answer-init c = joined_none _ _ _ _ _

pub put_followed-at-requires : goal.put_followed-at-requires
put_followed-at-requires c =
    let l = c.loop-answer.invariant in
    let small : c.from.result < 256 = search rules in
    omega (arith, byte_line_most c.from.result small, l.few, l.put.long, c.requires)

pub loop-answer-preserved : goal.loop-answer-preserved
loop-answer-preserved c =
    let put = c.put_followed-at in
    let small : c.from.result < 256 = search rules in
    joined_more _ _ _ _ _ c.loop-answer.invariant c.loop-answer-test.true 0
    (rw (← c.from.ensures) (put_by _ _ _ _ _ put.ensures.0 put.ensures.1)) (omega (arith, put.ensures.0, byte_line_most c.from.result small)) refl

pub returns : goal.returns
returns c =
    let all = joined_all _ _ _ _ _ c.loop-answer.invariant c.loop-answer-test.false in
    record { put = all.0; most = omega (arith, all.1) }
