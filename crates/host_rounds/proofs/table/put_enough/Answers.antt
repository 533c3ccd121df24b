-- The word, then none or the number.
-- Assumes nothing.
use Rattle.std.proofs.Common.{arith}
use Rattle.wording.proofs.PutLaws.{put_one, put_more}
use Rattle.host_rounds.specs.Lines.{enough_line}
use Rattle.host_rounds.proofs.table.put_enough.Goals as goal

pub returns-in-Some : goal.returns-in-Some
unfolding enough_line
returns-in-Some c =
    let put = put_more (put_one c.put_word-behind.ensures (omega (arith, c.requires))) c.put_number.ensures (omega (arith, c.requires)) in
    record { put = rw c.in-Some.is put.put; most = put.few }

pub returns-in-None : goal.returns-in-None
unfolding enough_line
returns-in-None c =
    let put = put_more (put_one c.put_word-behind.ensures (omega (arith, c.requires))) c.put_word.ensures (omega (arith, c.requires)) in
    record { put = rw c.in-None.is put.put; most = omega (arith, put.few) }
