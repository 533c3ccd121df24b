-- The first modes are filled, the others stay. Assumes nothing.
use Rattle.std.proofs.Common.{ℕ, ◌≤◌, ◌≡◌, ◌-◌, ◌++◌, List, length, take, drop, replicate, arith}
use Rattle.std.proofs.lemmas.List.{drop-replicate, take-replicate, length-replicate}
use Rattle.fresh.proofs.state.root_modes.Goals as goal

front_filled :
    (n : ℕ) (front : List ℕ) → n ≤ 64 → front ≡ replicate (length (take n (replicate {A = ℕ} 8192 0))) 2
    → front ++ drop n (replicate 8192 0) ≡ replicate n 2 ++ replicate (8192 - n) 0
front_filled n front few e = let below : n ≤ 8192 = omega arith in rw (e, take-replicate {X = ℕ} n 8192 0, length-replicate, drop-replicate)

pub returns : goal.returns
returns c = front_filled c.args.locations c.fill.new.self c.requires (c.fill.ensures.after (λ y q. q))
