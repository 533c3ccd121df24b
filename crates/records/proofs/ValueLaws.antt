-- What a test passes over, in the code's terms. Assumes nothing.
use Rattle.std.proofs.Common.{◌≡◌, ℕ, zero, suc, ◌≢◌, sym, refl, ap}
use Rattle.semantics.specs.Plan.{passed_over}

pub over_zero : (a b : ℕ) → a ≡ 0 → b ≡ passed_over a b
unfolding passed_over
over_zero a b h = sym (ap (λ x. passed_over x b) h)

pub over_none : (a b : ℕ) → a ≢ 0 → 0 ≡ passed_over a b
unfolding passed_over
over_none zero b h = absurd (h refl)
over_none (suc a) b h = refl

-- for a skip
pub ruleset tested = (over_zero, over_none)
