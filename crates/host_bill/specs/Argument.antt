-- The bill as an argument: decimal digits, one at least, that make a number below 2^32. Bytes are numbers: 48 is the digit 0, 57
-- the digit 9.
use Rattle.std.specs.Prelude.{ℕ, ◌+◌, ◌-◌, ◌*◌, ◌^◌, List, [], ◌∷◌, Bool, cond, ◌&&◌, leb, ltb, Option, Some, None}

unfoldable pub is_digit : ℕ → Bool
is_digit byte = leb 48 byte && leb byte 57

-- the number that digits behind n make
unfoldable pub pence_from : ℕ → List ℕ → Option ℕ
pence_from n [] = cond (ltb n (2 ^ 32)) (Some n) None
pence_from n (byte ∷ text) = cond (is_digit byte) (pence_from (10 * n + (byte - 48)) text) None

unfoldable pub pence_in : List ℕ → Option ℕ
pence_in [] = None
pence_in (byte ∷ text) = pence_from 0 (byte ∷ text)
