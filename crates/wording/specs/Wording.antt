-- The words of what the coordinator prints: document 01, "Publishing examples", its last paragraph. Bytes are numbers: 10 is a line
-- feed, 32 a space, 48 the digit 0.
use Rattle.std.specs.Prelude.{ℕ, zero, suc, ◌+◌, ◌/◌, ◌%◌, List, [], ◌∷◌, ◌++◌, cond, length, ltb}
use Rattle.tasklist.specs.Encode.{joined}
use Rattle.semantics.specs.Run.{Run}
use Rattle.semantics.specs.Operations.{Asked, denies, gives}

-- the digits of a number, with so many steps to spare
unfoldable pub digits_within : ℕ → ℕ → List ℕ
digits_within zero n = []
digits_within (suc k) n = cond (ltb n 10) ((48 + n) ∷ []) (digits_within k (n / 10) ++ ((48 + n % 10) ∷ []))

-- a number in decimal, with no zero in front
unfoldable pub digits : ℕ → List ℕ
digits n = digits_within (suc n) n

-- a number and the byte behind it
unfoldable pub followed : ℕ → ℕ → List ℕ
followed n behind = digits n ++ (behind ∷ [])

-- a number on a line of its own
abbrev pub line : ℕ → List ℕ
line n = followed n 10

-- "last calls, weight and jobs left"
unfoldable pub totals : ℕ → ℕ → ℕ → List ℕ
totals calls weight left = followed calls 32 ++ followed weight 32 ++ line left

-- "each entry on a line; last calls, weight and jobs left"
unfoldable pub closing : Run → List ℕ
closing r = joined line r.memory ++ totals r.calls r.weight (length r.order)

-- "A failed open prints one line, as `refused 1`."
unfoldable pub refused_line : ℕ → List ℕ
refused_line k = 114 ∷ 101 ∷ 102 ∷ 117 ∷ 115 ∷ 101 ∷ 100 ∷ 32 ∷ line k

-- the line of a failed open, "Else" the lines of the run
unfoldable pub printed : Asked (List ℕ) → List ℕ
printed (denies k) = refused_line k
printed (gives lines) = lines
