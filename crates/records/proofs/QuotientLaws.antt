-- What a quotient comes to, by the tests of the code. Assumes nothing.
use Rattle.std.proofs.Common.{◌≡◌, ℕ, ◌<◌, ◌≤◌, ◌≢◌, arith, Ok, Err}
use Rattle.semantics.specs.declared.Fault.TheVariants.{TooLarge, ZeroDivisor}
use Rattle.semantics.specs.Rounding.{rounded}
use Rattle.semantics.proofs.Rounding.{zero_faults, rounded_nearest, large_faults, small_passes}
use Rattle.records.specs.Quotients.{QuotientIs}

pub zero_divisor : (n d : ℕ) → d ≡ 0 → QuotientIs n d (Err ZeroDivisor)
zero_divisor n d h = zero_faults n d h

module _ (n d v : ℕ) (h : d ≢ 0) (is : rounded n d ≡ v) where
  divides : 0 < d
  divides = omega arith

  pub large_result : 4294967295 < v → QuotientIs n d (Err TooLarge)
  large_result l = large_faults n d (rounded n d) divides (rounded_nearest n d divides) (omega (arith, is, l))

  pub small_result : v ≤ 4294967295 → QuotientIs n d (Ok v)
  small_result l = (small_passes n d (rounded n d) divides (rounded_nearest n d divides) (omega (arith, is, l)), is)

-- for a quotient
pub ruleset quotients = (zero_divisor, large_result, small_result)
