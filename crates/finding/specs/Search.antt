-- The first number that passes a test.
use Rattle.std.specs.Prelude.{ℕ, zero, suc, Bool, cond}

-- the first of the k numbers from n on that passes; the number behind them where none does
unfoldable pub first_from : (ℕ → Bool) → ℕ → ℕ → ℕ
first_from test n zero = n
first_from test n (suc k) = cond (test n) n (first_from test (suc n) k)
