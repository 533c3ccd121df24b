-- What holds of the shares of a bill: request 114.
use Rattle.std.specs.Prelude.{ℕ, suc, ◌+◌, ◌*◌, ◌<◌, ◌≡◌, List, ◌⊎◌, length, get_or}
use Rattle.bill_shares.specs.Shares.{whole, floors, remainders, shares}

pub record Shared (bill : ℕ) (ws : List ℕ) : Type 0 where
  -- one share for each weight
  pub count : length (shares bill ws) ≡ length ws
  -- "Shares total the bill",
  pub totals : whole (shares bill ws) ≡ bill
  -- "and each is less than one penny from the exact share", which is bill × w / whole; both sides times whole
  pub not_above : (i : ℕ) → i < length ws → whole ws * get_or (shares bill ws) i 0 < bill * get_or ws i 0 + whole ws
  pub not_below : (i : ℕ) → i < length ws → bill * get_or ws i 0 < whole ws * get_or (shares bill ws) i 0 + whole ws
  -- "rounded down; remaining pence go one each"
  pub one_each :
      (i : ℕ) → i < length ws
      → (get_or (shares bill ws) i 0 ≡ get_or (floors bill ws) i 0) ⊎ (get_or (shares bill ws) i 0 ≡ suc (get_or (floors bill ws) i 0))
  -- "to the largest remainders, the lower number first among equals": place i has got a penny, and place j has not
  pub largest :
      (i j : ℕ) → i < length ws → j < length ws → get_or (shares bill ws) i 0 ≡ suc (get_or (floors bill ws) i 0)
      → get_or (shares bill ws) j 0 ≡ get_or (floors bill ws) j 0
      → (get_or (remainders bill ws) j 0 < get_or (remainders bill ws) i 0)
      ⊎ ((get_or (remainders bill ws) j 0 ≡ get_or (remainders bill ws) i 0) × (i < j))

-- for every bill and all weights, some of which is not 0
abbrev pub SharedLaw : Type 0
SharedLaw = (bill : ℕ) (ws : List ℕ) → 0 < whole ws → Shared bill ws
