-- Nothing, the table, or the line of a failed open.
-- Assumes nothing.
use Rattle.std.proofs.Common.{arith, sym, subst, ◌∙◌}
use Rattle.runtime.specs.Asked.{open_number}
use Rattle.wording.specs.Wording.{refused_line}
use Rattle.wording.specs.Promises.{Wrote, given}
use Rattle.wording.proofs.WroteLaws.{no_room, with_room, wrote_none}
use Rattle.wording.proofs.PutLaws.{put_wrote}
use Rattle.host_rounds.specs.Lines.{table_lines, rounds_text}
use Rattle.host_rounds.specs.Promises.{rounds_at, calls_in}
use Rattle.host_rounds.proofs.FileLaws.{text_refused, text_given}
use Rattle.host_rounds.proofs.table.rounds_lines.Goals as goal

pub returns-then-out-lt-ROOM : goal.returns-then-out-lt-ROOM
returns-then-out-lt-ROOM c =
    let a = c.args in
    let bytes = rounds_text a.jobs.now a.numbers.now in
    wrote_none (given 640 a.out.now bytes) a.out.now (no_room 640 a.out.now bytes c.if-out-lt-ROOM.true)

pub returns-in-Ok : goal.returns-in-Ok
returns-in-Ok c =
    let a = c.args in
    let bytes = rounds_text a.jobs.now a.numbers.now in
    let t = c.in-Ok.table in
    let put = c.put_table in
    put_wrote (given 640 a.out.now bytes) (table_lines (calls_in t) t.span (rounds_at t)) a.out.now put.new.out put.result
    (with_room 640 a.out.now bytes c.if-out-lt-ROOM.false ∙ text_given a.jobs.now a.numbers.now t c.in-Ok.ensures)
    (omega (arith, put.ensures.most, put.ensures.put.behind, c.if-out-lt-ROOM.false)) put.ensures.put

pub returns-in-Err : goal.returns-in-Err
returns-in-Err c =
    let a = c.args in
    let bytes = rounds_text a.jobs.now a.numbers.now in
    let k = c.in-Err.refusal in
    let line = c.open_line in
    subst (λ x. Wrote x a.out.now line.new.out line.result)
    (with_room 11 a.out.now (refused_line (open_number k)) (omega (arith, c.if-out-lt-ROOM.false))
    ∙ sym (text_refused a.jobs.now a.numbers.now k c.in-Err.ensures)
    ∙ sym (with_room 640 a.out.now bytes c.if-out-lt-ROOM.false))
    line.ensures
