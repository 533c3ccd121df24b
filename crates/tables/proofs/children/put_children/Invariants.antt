use Rattle.tables.proofs.ChildLaws.{ToPut}
use Rattle.tables.proofs.children.put_children.Given as goal

abbrev pub invariant-loop-i : goal.invariant-loop-i
invariant-loop-i l =
    ToPut l.spawner.registers l.spawner.modes l.spawner.lines.now l.initial.row l.at l.block.first l.block.apart l.block.children l.initial.modes l.initial.order l.i l.row l.modes l.order
