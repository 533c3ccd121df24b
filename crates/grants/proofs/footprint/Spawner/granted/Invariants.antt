use Rattle.grants.proofs.GrantLaws.{Given}
use Rattle.grants.proofs.footprint.Spawner.granted.Given as goal

abbrev pub invariant-loop-line : goal.invariant-loop-line
invariant-loop-line l = Given l.registers l.self.modes l.self.lines.now l.modes l.line-index
