use Rattle.ahead.specs.Ahead.{accesses_of}
use Rattle.ahead.proofs.SearchLaws.{SearchedTo}
use Rattle.ahead.proofs.search.search_ahead.Given as goal

abbrev pub invariant-loop-place : goal.invariant-loop-place
invariant-loop-place l = SearchedTo l.modes (accesses_of l.wanted) l.tasks l.hold l.place
