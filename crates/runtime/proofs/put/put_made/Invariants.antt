use Rattle.steps.proofs.ChildrenLaws.{ChildrenLeft}
use Rattle.runtime.proofs.put.put_made.Given as goal

abbrev pub invariant-loop-i : goal.invariant-loop-i
invariant-loop-i l =
    ChildrenLeft l.block.first l.block.apart l.fn.made.record l.block.children l.initial.records l.i l.records
