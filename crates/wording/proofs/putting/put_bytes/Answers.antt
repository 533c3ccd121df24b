-- Assumes nothing.
use Rattle.std.proofs.Common.{arith}
use Rattle.wording.proofs.PutLaws.{put_part}
use Rattle.wording.proofs.putting.put_bytes.Goals as goal

pub returns : goal.returns
returns c =
    let a = c.args in
    put_part a.word.now a.out.now _ a.at _ c.requires (omega arith) c.copy_from_slice.ensures.after
