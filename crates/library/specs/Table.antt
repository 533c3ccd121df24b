-- The numbers of a table of weights: request 105, "over the C boundary the table is bytes, two per number, least first".
use Rattle.std.specs.Prelude.{ℕ, ◌+◌, ◌*◌, ◌≡◌, List, [], ◌∷◌, cond, length, eqb, Option, IfSome, unwrap_or}

unfoldable pub pair_of : ℕ → ℕ → ℕ
pair_of a b = a + 256 * b

-- the numbers of the bytes, two at a time; a single one at the end gives none
unfoldable pub pairs_of : List ℕ → List ℕ
pairs_of [] = []
pairs_of (a ∷ []) = []
pairs_of (a ∷ b ∷ rest) = pair_of a b ∷ pairs_of rest

-- "21 wrong length": other than 2 × 15 bytes are no table
unfoldable pub table_of : List ℕ → List ℕ
table_of bytes = cond (eqb (length bytes) 30) (pairs_of bytes) []

-- the table's numbers, or none where the bytes are no table
pub record ReadTable (bytes : List ℕ) (r : Option (List ℕ)) : Type 0 where
  pub whole : IfSome r (λ values. length values ≡ 15)
  pub values : unwrap_or r [] ≡ table_of bytes
