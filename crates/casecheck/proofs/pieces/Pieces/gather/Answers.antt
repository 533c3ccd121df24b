-- The bytes stand behind those that were gathered.
-- Assumes nothing.
use Rattle.std.proofs.Common.{rules}
use lib.Seq.{length-take-le}
use Rattle.casecheck.proofs.PieceLaws.{put_behind}
use Rattle.casecheck.proofs.pieces.Pieces.gather.Goals as goal

pub returns-clause-bytes : goal.returns-clause-bytes
returns-clause-bytes g c =
    put_behind c.args.self.now.bytes _ _ c.args.self.now.filled c.min-n.result _ (search rules) c.copy_from_slice.ensures.after
    (length-take-le c.min-n.result c.args.buf.now (search rules))
