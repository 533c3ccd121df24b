-- One read behind the other. Assumes nothing.
use Rattle.std.proofs.Common.{rules}
use Rattle.host_files.proofs.FileLaws.{read_on}
use Rattle.host_files.proofs.read_up_to.Goals as goal

pub loop-done-preserved : goal.loop-done-preserved
loop-done-preserved g c =
    let l = c.loop-done in record {
      most = search rules;
      bytes = read_on _ _ _ l.done c.in-Ok.n l.buf c.read.new.buf l.invariant.most c.in-Ok.ensures.bound.0 l.invariant.bytes c.in-Ok.ensures.bytes.0;
    }
