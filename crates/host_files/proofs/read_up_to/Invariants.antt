use Rattle.std.proofs.Common.{◌-◌, length}
use Rattle.host_files.specs.Files.{Taken}
use Rattle.host_files.proofs.read_up_to.Given as goal

abbrev pub invariant-loop-done : goal.invariant-loop-done
invariant-loop-done g l =
    Taken (g.F.Read.remaining l.initial.file) (g.F.Read.remaining l.file) l.done l.buf

abbrev pub decreases-loop-done : goal.decreases-loop-done
decreases-loop-done g l = length l.buf - l.done
