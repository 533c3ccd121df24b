-- The word, then the number.
-- Assumes nothing.
use Rattle.std.proofs.Common.{arith}
use Rattle.wording.specs.Wording.{refused_line}
use Rattle.wording.proofs.PutLaws.{put_one, put_more}
use Rattle.host_bill.proofs.lines.put_refused.Goals as goal

pub returns : goal.returns
unfolding refused_line
returns c =
    let all = put_more (put_one c.put_word-at.ensures (omega (arith, c.requires))) c.put_number.ensures (omega (arith, c.requires)) in
    record { put = rw (← c.from.ensures) all.put; most = all.few }
