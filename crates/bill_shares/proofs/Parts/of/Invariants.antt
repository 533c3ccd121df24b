use Rattle.std.proofs.Common.{ℕ, ◌≤◌, ◌<◌, ◌≡◌, length, get_or, min}
use Rattle.bill_shares.proofs.CodeLaws.{none, ComesTo}
use Rattle.bill_shares.proofs.Parts.of.Given as goal

abbrev pub invariant-loop-i : goal.invariant-loop-i
invariant-loop-i l =
    (length l.parts ≡ 128)
    × ((k : ℕ) → k < l.i → ComesTo l.bill l.all (get_or l.weights k 0) (get_or l.parts k none))
