use Rattle.std.proofs.Common.{◌≡◌, ◌<◌, ◌≤◌, length, take}
use Rattle.arrays.specs.Rows.{row}
use Rattle.ahead.proofs.SearchLaws.{Collected}
use Rattle.ahead.proofs.wanted.wanted_of.Given as goal

abbrev pub invariant-loop-location : goal.invariant-loop-location
invariant-loop-location l =
    (l.count ≤ length l.yielded) × (length l.accesses ≡ 64)
    × (l.task < 128 → Collected (row l.task l.modes) (take l.count l.accesses) (length l.yielded))
