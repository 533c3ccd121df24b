-- Word by word, each number of 11 bytes at most with what follows it. Assumes nothing.
use Rattle.std.proofs.Common.{arith}
use Rattle.wording.proofs.PutLaws.{put_one, put_more}
use Rattle.host_bill.specs.Lines.{told}
use Rattle.host_bill.proofs.lines.put_line.Goals as goal

pub returns : goal.returns
unfolding told
returns c =
    let first = put_one c.put_word-first.ensures (omega (arith, c.requires)) in
    let second = put_more first c.put_number-second.ensures (omega (arith, c.requires)) in
    let third = put_more second c.put_word-third.ensures (omega (arith, c.requires)) in
    let fourth = put_more third c.put_number-fourth.ensures (omega (arith, c.requires)) in
    let fifth = put_more fourth c.put_word-fifth.ensures (omega (arith, c.requires)) in
    let all = put_more fifth c.put_number.ensures (omega (arith, c.requires)) in
    record { put = all.put; most = omega (arith, all.few) }
