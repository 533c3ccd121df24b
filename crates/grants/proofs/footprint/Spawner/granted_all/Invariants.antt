use Rattle.semantics.specs.Footprint.{granted}
use Rattle.grants.specs.Grants.{child_grant}
use Rattle.grants.proofs.TestedLaws.{Tested}
use Rattle.grants.proofs.footprint.Spawner.granted_all.Given as goal

abbrev pub invariant-loop-i : goal.invariant-loop-i
invariant-loop-i l =
    Tested (child_grant l.self.registers l.self.modes l.self.lines.now) l.children l.i (granted l.given)
