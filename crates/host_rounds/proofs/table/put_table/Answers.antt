-- Part by part, each behind the one before. Assumes nothing.
use Rattle.std.proofs.Common.{arith}
use Rattle.wording.proofs.PutLaws.{put_next}
use Rattle.host_rounds.specs.Lines.{table_lines}
use Rattle.host_rounds.specs.Promises.{calls_in}
use Rattle.host_rounds.proofs.LineLaws.{front_put}
use Rattle.host_rounds.proofs.table.put_table.Goals as goal

pub put_rows-fifth-requires : goal.put_rows-fifth-requires
put_rows-fifth-requires c =
    let t = c.args.table in
    let front = front_put (calls_in t) t.span c.requires c.put_word-first.ensures c.put_number-second.ensures c.put_word-third.ensures
    c.put_number-fourth.ensures in
    omega (arith, front.few, front.put.long, c.requires)

pub put_enough-requires : goal.put_enough-requires
put_enough-requires c =
    let t = c.args.table in
    let front = front_put (calls_in t) t.span c.requires c.put_word-first.ensures c.put_number-second.ensures c.put_word-third.ensures
    c.put_number-fourth.ensures in
    let rows = put_next 544 front c.put_rows-fifth.ensures.put c.put_rows-fifth.ensures.most in
    omega (arith, rows.few, rows.put.long, c.requires)

pub returns : goal.returns
unfolding table_lines
returns c =
    let t = c.args.table in
    let front = front_put (calls_in t) t.span c.requires c.put_word-first.ensures c.put_number-second.ensures c.put_word-third.ensures
    c.put_number-fourth.ensures in
    let rows = put_next 544 front c.put_rows-fifth.ensures.put c.put_rows-fifth.ensures.most in
    let all = put_next 18 rows c.put_enough.ensures.put c.put_enough.ensures.most in
    record { put = rw (← c.enough.ensures) all.put; most = omega (arith, all.few) }
