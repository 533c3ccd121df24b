-- The numbers of a library: document 01, "library.bin (4 bytes per entry, least first; a length other than 4 × C gives 8)".
use Rattle.std.specs.Prelude.{ℕ, ◌+◌, ◌*◌, ◌/◌, ◌%◌, ◌≤◌, ◌≡◌, List, [], ◌∷◌, ◌++◌, Result, is_ok, cond, length, take, drop, leb, eqb}
use Rattle.tasklist.specs.declared.Short.{Short}
use Rattle.library.specs.declared.Numbers.{Numbers}

-- "4 bytes per entry, least first"
unfoldable pub number_of : ℕ → ℕ → ℕ → ℕ → ℕ
number_of a b c d = a + 256 * b + 65536 * c + 16777216 * d

-- the numbers of the bytes, four at a time; fewer than four at the end give none
unfoldable pub numbers_of : List ℕ → List ℕ
numbers_of [] = []
numbers_of (a ∷ []) = []
numbers_of (a ∷ b ∷ []) = []
numbers_of (a ∷ b ∷ c ∷ []) = []
numbers_of (a ∷ b ∷ c ∷ d ∷ rest) = number_of a b c d ∷ numbers_of rest

-- a number's four bytes, least first
unfoldable pub number_bytes : ℕ → List ℕ
number_bytes n = n % 256 ∷ n / 256 % 256 ∷ n / 65536 % 256 ∷ n / 16777216 % 256 ∷ []

-- the bytes of the numbers
unfoldable pub bytes_of : List ℕ → List ℕ
bytes_of [] = []
bytes_of (n ∷ ns) = number_bytes n ++ bytes_of ns

-- The memory that a library holds (document 01: the entries); none where its length is no multiple of 4. No list has
-- C = 0, so that "a length other than 4 × C" is a memory of other than C numbers (proofs/LibraryLaws, fits_length and fits_only).
unfoldable pub memory_of : List ℕ → List ℕ
memory_of bytes = cond (eqb (length bytes % 4) 0) (numbers_of bytes) []

-- the same, but none where there are more than 64 numbers, which no list has
unfoldable pub fitting : List ℕ → List ℕ
fitting bytes = cond (leb (length bytes) 256) (memory_of bytes) []

-- the first `count` values are the library's numbers
pub record Read (bytes : List ℕ) (r : Numbers) : Type 0 where
  pub whole : length r.values ≡ 64
  pub count : r.count ≤ 64
  pub values : take r.count r.values ≡ fitting bytes

-- bytes put at the front of lent places where they fit; else no place is written
unfoldable pub at_front : List ℕ → List ℕ → List ℕ
at_front bytes out = cond (leb (length bytes) (length out)) (bytes ++ drop (length bytes) out) out

-- the lent places before and after, and whether the bytes fit
pub record Put (bytes before after : List ℕ) (r : Result Unit Short) : Type 0 where
  pub fits : is_ok r ≡ leb (length bytes) (length before)
  pub places : after ≡ at_front bytes before
