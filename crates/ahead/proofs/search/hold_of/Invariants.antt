use Rattle.ahead.proofs.SearchLaws.{LookedTo}
use Rattle.ahead.proofs.search.hold_of.Given as goal

abbrev pub invariant-loop-access : goal.invariant-loop-access
invariant-loop-access l = LookedTo l.modes l.task l.wanted l.hold l.access-index
