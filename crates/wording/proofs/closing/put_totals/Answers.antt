-- One number behind the other.
-- Assumes nothing.
use Rattle.std.proofs.Common.{arith}
use Rattle.wording.specs.Wording.{totals}
use Rattle.wording.proofs.PutLaws.{put_one, put_more}
use Rattle.wording.proofs.closing.put_totals.Goals as goal

pub returns : goal.returns
unfolding totals
returns c =
    let one = put_one c.put_number-second.ensures (omega (arith, c.requires)) in
    let two = put_more one c.put_number-third.ensures (omega (arith, c.requires)) in
    let all = put_more two c.put_number.ensures (omega (arith, c.requires)) in
    record { put = all.put; most = all.few }
