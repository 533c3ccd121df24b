use Prim.Native.Nat.{◌+◌, ◌*◌, ◌≤◌}
use Rattle.tables.proofs.NumberLaws.{Counted}
use Rattle.tables.proofs.number.child_number.Given as goal

abbrev pub invariant-loop-instruction : goal.invariant-loop-instruction
invariant-loop-instruction l =
    (l.n ≤ 128 + 65536 * l.instruction-index) × Counted l.fn.tables l.task l.instruction-items l.n l.instruction-index
