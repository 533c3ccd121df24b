-- The lines of the first numbers of workers are put.
-- Assumes nothing.
use Rattle.std.proofs.Common.{length}
use Rattle.std.specs.List.{range_with_len}
use Rattle.wording.proofs.JoinedLaws.{JoinedPut}
use Rattle.host_rounds.specs.Promises.{rounds_at, calls_in}
use Rattle.host_rounds.proofs.LineLaws.{row_of}
use Rattle.host_rounds.proofs.lines.put_rows.Given as goal

abbrev pub invariant-loop-workers : goal.invariant-loop-workers
invariant-loop-workers l =
    JoinedPut (row_of (calls_in l.fn.table) (rounds_at l.fn.table)) 34 (range_with_len 1 16) l.initial.out l.at l.out l.stop (length l.yielded)
