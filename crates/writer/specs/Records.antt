-- Records as they are written: a mark, a count, and the items one behind the other.
use Rattle.std.specs.Prelude.{ℕ, List, ◌∷◌, length}
use Rattle.tasklist.specs.Encode.{joined}

-- a record of the second byte of its mark, and of the bytes of each of its items
abbrev pub record_bytes : {A : Type 0} → ℕ → (A → List ℕ) → List A → List ℕ
record_bytes second bytes items = 0x4A ∷ second ∷ length items ∷ joined bytes items
