-- What the functions promise: what they write into a lent slice.
use Rattle.std.specs.Prelude.{ℕ, ◌+◌, ◌≤◌, ◌<◌, ◌≡◌, List, [], ◌++◌, cond, length, take, drop, leb, Option, Some, None, Result, Ok, Err}
use Rattle.std.proofs.lemmas.List.Edits.{sets}
use Rattle.runtime.specs.declared.OpenRefusal.{OpenRefusal}
use Rattle.runtime.specs.Asked.{open_number}
use Rattle.wording.specs.Wording.{line, refused_line}

-- these bytes where the slice has so many places, else none
unfoldable pub given : ℕ → List ℕ → List ℕ → List ℕ
given room out bytes = cond (leb room (length out)) bytes []

-- the line of a failed open; none where it accepts
abbrev pub open_bytes : Result Unit OpenRefusal → List ℕ
open_bytes (Ok _) = []
open_bytes (Err k) = refused_line (open_number k)

-- n bytes were written at the front of a lent slice, and the rest of it is as it was
pub record Wrote (bytes before after : List ℕ) (n : ℕ) : Type 0 where
  pub count : n ≡ length bytes
  pub places : after ≡ bytes ++ drop (length bytes) before
  pub within : n ≤ length after
  pub whole : n ≡ length (take n after)

-- "half a call: 18"
unfoldable pub half_bytes : Option ℕ → List ℕ
half_bytes None = []
half_bytes (Some k) = line 18

-- bytes were put at a place of a lent slice; `stop` is the place behind them
pub record PutAt (bytes before : List ℕ) (at : ℕ) (after : List ℕ) (stop : ℕ) : Type 0 where
  pub behind : stop ≡ at + length bytes
  pub places : after ≡ sets before at bytes
  pub long : length after ≡ length before

-- bytes were put where so many places are left from `at` on; else nothing is, and `stop` is `at`
pub record PutIf (wanted : ℕ) (bytes before : List ℕ) (at : ℕ) (after : List ℕ) (stop : ℕ) : Type 0 where
  pub room : at + wanted ≤ length before → PutAt bytes before at after stop
  pub most : at + wanted ≤ length before → stop ≤ at + wanted
  pub without : length before < at + wanted → (stop ≡ at) × (after ≡ before)
