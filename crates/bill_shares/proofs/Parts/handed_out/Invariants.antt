use Rattle.std.proofs.Common.{◌-◌, ◌≡◌, ◌++◌, map, length, replicate}
use Rattle.bill_shares.specs.Shares.{listed}
use Rattle.bill_shares.proofs.CodeLaws.{given}
use Rattle.bill_shares.proofs.Parts.handed_out.Given as goal

abbrev pub invariant-loop-i : goal.invariant-loop-i
invariant-loop-i l =
    (length l.shares ≡ 128)
    × (l.shares ≡ listed (given (map (λ p. p.floor) l.self) (map (λ p. p.remainder) l.self) l.pence) 0 l.i ++ replicate (128 - l.i) 0)
