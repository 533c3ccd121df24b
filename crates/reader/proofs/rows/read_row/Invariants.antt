use Rattle.std.proofs.Common.{◌≡◌, length, take}
use Rattle.reader.proofs.RowLaws.{Taking}
use Rattle.reader.proofs.rows.read_row.Given as goal

-- the first i items are in the row
abbrev pub invariant-loop-place : goal.invariant-loop-place
invariant-loop-place g l =
    record {
      whole : length l.items ≡ l.size;
      so_far : Taking _ (g.T.Item.item l.head l.row l.size) l.size l.fn.bytes l.place (take l.place l.items) l.rest;
    }
