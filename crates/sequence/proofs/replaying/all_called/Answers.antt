use Rattle.std.specs.Slice.Iter.{iter_rest}
use Rattle.std.specs.Iterator.Adapters.{zip_first, zip_second}
use Rattle.std.proofs.lemmas.Slice.Zip.{Zip-more, either_empty_from_Zip}
use Rattle.sequence.proofs.ReplayLaws.{left_less, left_none}
use Rattle.sequence.proofs.replaying.all_called.Goals as goal

pub loop-kind-preserved : goal.loop-kind-preserved
loop-kind-preserved c =
    let a = c.args in
    let l = c.loop-kind in
    let it = l.kind-iterator in
    let next = c.next.new.self in
    let more = Zip-more it next c.next.result (c.in-Some.kind, c.in-Some.task) c.in-Some.is c.next.ensures.steps in
    left_less a.kinds.now a.tasks.now a.run (iter_rest (zip_first it)) (iter_rest (zip_second it)) l.run l.invariant c.in-Some.kind.now
    c.in-Some.task.now (iter_rest (zip_first next)) (iter_rest (zip_second next)) c.called.new.run more.0 more.1 c.called.ensures

pub returns : goal.returns
returns c =
    let a = c.args in
    let l = c.loop-kind in
    let it = l.kind-iterator in
    left_none a.kinds.now a.tasks.now a.run (iter_rest (zip_first it)) (iter_rest (zip_second it)) l.run l.invariant
    (either_empty_from_Zip it c.next.new.self c.next.result c.in-None.is c.next.ensures.steps)
