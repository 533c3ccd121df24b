use Rattle.std.specs.Slice.Iter.{iter_rest}
use Rattle.std.specs.Iterator.Adapters.{zip_first, zip_second}
use Rattle.sequence.proofs.ReplayLaws.{Left}
use Rattle.sequence.proofs.replaying.all_called.Given as goal

abbrev pub invariant-loop-kind : goal.invariant-loop-kind
invariant-loop-kind l = Left l.kinds l.tasks l.fn.run (iter_rest (zip_first l.kind-iterator)) (iter_rest (zip_second l.kind-iterator)) l.run
