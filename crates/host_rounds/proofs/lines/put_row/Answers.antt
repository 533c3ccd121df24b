-- One number behind the other, each of 11 bytes at most with what follows it. Assumes nothing.
use Rattle.std.proofs.Common.{arith}
use Rattle.wording.proofs.PutLaws.{put_one, put_more}
use Rattle.host_rounds.specs.Lines.{row}
use Rattle.host_rounds.proofs.lines.put_row.Goals as goal

pub returns : goal.returns
unfolding row
returns c =
    let room = c.requires.room in
    let one = put_one c.put_number-second.ensures (omega (arith, room)) in
    let two = put_more one c.put_number-third.ensures (omega (arith, room)) in
    let three = put_more two c.put_number-last.ensures (omega (arith, room)) in
    let all = put_more three c.put_word.ensures (omega (arith, room)) in
    record { put = rw (← c.percent_used-percent.ensures) all.put; most = all.few }
