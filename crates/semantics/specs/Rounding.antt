-- Rounding a quotient. Request 108: "Both round to the nearest whole number, halves upward, on the exact value"; "The rounding is
-- one fact, shown for every divisor and used by both codes."
use Rattle.std.specs.Prelude.{ℕ, ◌+◌, ◌-◌, ◌*◌, ◌/◌, ◌≤◌, ◌≡◌}

-- n / d rounded, for a d of 1 or more
unfoldable pub rounded : ℕ → ℕ → ℕ
rounded n d = (n + d / 2) / d

-- how far q is from the exact value n / d, times d
abbrev pub distance : ℕ → ℕ → ℕ → ℕ
distance n d q = (n - q * d) + (q * d - n)

-- "to the nearest whole number": none is nearer to n / d than q; "halves upward": of two as near, q is the higher
pub record Nearest (n d q : ℕ) : Type 0 where
  pub nearest : (p : ℕ) → distance n d q ≤ distance n d p
  pub upward : (p : ℕ) → distance n d p ≡ distance n d q → p ≤ q
