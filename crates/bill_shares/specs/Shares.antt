-- A bill shared in proportion to weights: request 114. Places are numbered as the weights are, from 0 on. Where all weights are 0
-- the definitions compute with x / 0 = 0.
use Rattle.std.specs.Prelude.{ℕ, zero, suc, ◌+◌, ◌-◌, ◌*◌, ◌/◌, ◌%◌, List, [], ◌∷◌, map, Bool, cond, ◌&&◌, ◌||◌, length, get_or, ltb, eqb}

-- all weights, or all shares, together
unfoldable pub whole : List ℕ → ℕ
whole [] = 0
whole (x ∷ xs) = x + whole xs

-- The exact share of weight w is bill × w / whole: "shared in proportion, rounded down",
unfoldable pub floors : ℕ → List ℕ → List ℕ
floors bill ws = map (λ w. bill * w / whole ws) ws

-- and what the rounding leaves of it, in parts of the whole: "remainders"
unfoldable pub remainders : ℕ → List ℕ → List ℕ
remainders bill ws = map (λ w. bill * w % whole ws) ws

-- "remaining pence"
unfoldable pub remaining : ℕ → List ℕ → ℕ
remaining bill ws = bill - whole (floors bill ws)

-- "the largest remainders, the lower number first among equals": place j comes before place i
unfoldable pub comes_before : List ℕ → ℕ → ℕ → Bool
comes_before rs i j = ltb (get_or rs i 0) (get_or rs j 0) || (eqb (get_or rs i 0) (get_or rs j 0) && ltb j i)

-- how many of the numbers below n pass
unfoldable pub count_below : (ℕ → Bool) → ℕ → ℕ
count_below p zero = 0
count_below p (suc n) = count_below p n + cond (p n) 1 0

-- how many places come before place i
unfoldable pub rank_of : List ℕ → ℕ → ℕ
rank_of rs i = count_below (comes_before rs i) (length rs)

-- "go one each to the largest remainders": a penny for a place that fewer places than the remaining pence come before
unfoldable pub share_at : ℕ → List ℕ → ℕ → ℕ
share_at bill ws i = get_or (floors bill ws) i 0 + cond (ltb (rank_of (remainders bill ws) i) (remaining bill ws)) 1 0

-- the n values of f from one number on
unfoldable pub listed : (ℕ → ℕ) → ℕ → ℕ → List ℕ
listed f from zero = []
listed f from (suc n) = f from ∷ listed f (suc from) n

-- "The bill, below 2^32 pence, is shared in proportion, rounded down; remaining pence go one each to the largest remainders, the
-- lower number first among equals."
unfoldable pub shares : ℕ → List ℕ → List ℕ
shares bill ws = listed (share_at bill ws) 0 (length ws)
