use Rattle.std.proofs.Common.{take}
use Rattle.tasklist.specs.Fields.{row}
use Rattle.tasklist.specs.Tables.{rows}
use Rattle.tasklist.specs.Answers.{refusal_number}
use Rattle.reader.proofs.RowLaws.{Taking}
use Rattle.reader.proofs.rows.read_rows.Given as goal

-- the rows before s are in the table
abbrev pub invariant-loop-s : goal.invariant-loop-s
invariant-loop-s g l =
    let i = g.T.Item in
    Taking _ (λ s. row i.MARK i.WIDTH (refusal_number i.REFUSAL) (i.item l.head s)) l.fn.used l.fn.bytes l.s (rows i.WIDTH (take l.s l.sizes) l.items) l.rest
