-- How much of a file was read: document 01, "an unreadable file counts as empty".
use Rattle.std.specs.Prelude.{ℕ, ◌<◌, ◌≤◌, ◌≡◌, List, ◌++◌, length, take, ⊤, Option, Some, None}
use Rattle.std.specs.Io.KnownBytes.{Consumes, IsAtEnd}

-- so many bytes at the front of the buffer; none where the file can't be read
abbrev pub size_of : Option ℕ → ℕ
size_of None = 0
size_of (Some n) = n

-- they are within the buffer
pub record Within (read : Option ℕ) (buffer : List ℕ) : Type 0 where
  pub most : size_of read ≤ length buffer
  pub whole : size_of read ≡ length (take (size_of read) buffer)

-- n bytes at the front of the buffer are those that the file had left, where it is known what it has left
pub record Taken (old new : Option (List ℕ)) (n : ℕ) (buffer : List ℕ) : Type 0 where
  pub most : n ≤ length buffer
  pub bytes : Consumes old new (take n buffer)

-- the same; they are fewer than the buffer holds only at the file's end
pub record ReadsTo (old new : Option (List ℕ)) (n : ℕ) (buffer : List ℕ) : Type 0 where
  pub taken : Taken old new n buffer
  pub end : n < length buffer → IsAtEnd new

-- the bytes at the front of the buffer are those that the file had left, where it is known what it has left; they are fewer than the
-- buffer holds only at the file's end
abbrev pub Front : Option (List ℕ) → Option (List ℕ) → Option ℕ → List ℕ → Type 0
Front old new None buffer = ⊤
Front old new (Some n) buffer = Consumes old new (take n buffer) × (n < length buffer → IsAtEnd new)

-- n bytes at the front of the buffer are those that the file had left, and behind them at most one more was read on
pub record ReadsOn (old new : Option (List ℕ)) (n : ℕ) (buffer : List ℕ) : Type 0 where
  pub most : n ≤ length buffer
  pub next : List ℕ
  pub one : length next ≤ 1
  pub bytes : Consumes old new (take n buffer ++ next)
