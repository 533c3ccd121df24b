use Rattle.std.proofs.Common.{◌+◌, length}
use Rattle.std.proofs.lemmas.List.Edits.{sets}
use Rattle.tasklist.specs.Encode.{joined}
use Rattle.tasklist.proofs.WriterLaws.{Put}
use Rattle.writer.proofs.rows.put_row.Given as goal

-- what is still to be put
abbrev pub invariant-loop-item : goal.invariant-loop-item
invariant-loop-item g l =
    Put g.T.Item.bytes l.items
    (sets l.initial.out l.initial.at (joined g.T.Item.bytes l.items))
    (l.initial.at + length (joined g.T.Item.bytes l.items))
    l.out l.at l.item-index
