-- The file of cases (docs/cases.md): its parts, one behind the other from the front. Assumes nothing.
use Rattle.std.specs.Prelude.{ℕ, ◌+◌, ◌*◌, ◌/◌, List, [], ◌∷◌, leb, cond, length, take, drop, map, Option, Some, None}
use Rattle.std.specs.Int.{w32, from_le_bytes}
use Rattle.std.specs.Simd.{first_chunks}
use Rattle.std.specs.Borrow.{Bor}

-- so many bytes at the front and those behind them, where there are as many
abbrev pub split : ℕ → List ℕ → Option (List ℕ × List ℕ)
split n bytes = cond (leb n (length bytes)) (Some (take n bytes, drop n bytes)) None

-- "Numbers are least byte first.", "2, then as many": a count of two bytes and as many places of `width` bytes, and the bytes behind
unfoldable pub part : ℕ → List ℕ → Option (List ℕ × List ℕ)
part width [] = None
part width (low ∷ []) = None
part width (low ∷ high ∷ rest) = split ((low + 256 * high) * width) rest

-- the bytes of a case's parts: the list, the numbers of the library, the calls
pub record Parts : Type 0 where
  pub list : List ℕ
  pub numbers : List ℕ
  pub calls : List ℕ

abbrev pub calls_behind : List ℕ → List ℕ → Option (List ℕ × List ℕ) → Option (Parts × List ℕ)
calls_behind l n None = None
calls_behind l n (Some p) = Some (record { list = l; numbers = n; calls = p.0 }, p.1)

abbrev pub numbers_behind : List ℕ → Option (List ℕ × List ℕ) → Option (Parts × List ℕ)
numbers_behind l None = None
numbers_behind l (Some p) = calls_behind l p.0 (part 5 p.1)

abbrev pub list_behind : Option (List ℕ × List ℕ) → Option (Parts × List ℕ)
list_behind None = None
list_behind (Some p) = numbers_behind p.0 (part 4 p.1)

-- the three parts of the case at the front, and the bytes behind them
unfoldable pub case_front : List ℕ → Option (Parts × List ℕ)
case_front bytes = list_behind (part 1 bytes)

-- what the code splits
abbrev pub split_as : Option (Bor (List ℕ) × Bor (List ℕ)) → Option (List ℕ × List ℕ)
split_as None = None
split_as (Some p) = Some (p.0.now, p.1.now)

-- "Numbers are least byte first.": those of the library, four bytes for each
abbrev pub words_of : List ℕ → List ℕ
words_of bytes = map (from_le_bytes w32) (first_chunks 4 (length bytes / 4) bytes)
