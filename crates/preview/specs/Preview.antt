-- The two functions for the editor's preview, which is written in C: document 01, "Calls".
use Rattle.std.specs.Prelude.{ℕ, ◌+◌, ◌≡◌, List, ◌++◌, cond, length, drop, leb}
use Rattle.tasklist.specs.Decode.{decode}
use Rattle.tasklist.specs.Answers.{check_answer}
use Rattle.tasklist.specs.Answers as Listed
use Rattle.semantics.specs.Run.{Run}
use Rattle.semantics.specs.Operations.{Asked, denies, gives, sequential_asked}
use Rattle.library.specs.Library.{memory_of, bytes_of}
use Rattle.library.specs.Table.{table_of}

-- "a refusal is 128 plus its number"
abbrev pub refusal_over_c : ℕ → ℕ
refusal_over_c k = 128 + k

abbrev pub check_number : Listed.Answer → ℕ
check_number (Listed.refuses k) = refusal_over_c k
check_number (Listed.gives n) = n

-- "Over that C boundary check still gives count(0)"
unfoldable pub check_over_c : List ℕ → ℕ
check_over_c list = check_number (check_answer (decode list))

-- "writes the final entries likewise (slice too short: 17, last)": the bytes of a run's memory, for a slice of `room` bytes
unfoldable pub final_entries : ℕ → Asked Run → Asked (List ℕ)
final_entries room (denies k) = denies k
final_entries room (gives r) =
    let bytes = bytes_of r.memory in
    cond (leb (length bytes) room) (gives bytes) (denies 17)

-- "its hand run takes the library as in library.bin"; request 105: "over the C boundary the table is bytes"; the refusals 1 to 7 of
-- check, then 8, 21, 22, then 17
unfoldable pub hand_run_over_c : List ℕ → List ℕ → List ℕ → ℕ → Asked (List ℕ)
hand_run_over_c list library table room = final_entries room (sequential_asked list (memory_of library) (table_of table))

-- "a successful hand run gives 0, and a refusal is 128 plus its number"
unfoldable pub hand_run_number : Asked (List ℕ) → ℕ
hand_run_number (denies k) = refusal_over_c k
hand_run_number (gives bytes) = 0

-- "Success writes the named places only"; of a refusal "buffers keep their contents"
unfoldable pub hand_run_places : Asked (List ℕ) → List ℕ → List ℕ
hand_run_places (denies k) before = before
hand_run_places (gives bytes) before = bytes ++ drop (length bytes) before

-- the number given, and the lent slice before and after
pub record Answers (asked : Asked (List ℕ)) (before after : List ℕ) (r : ℕ) : Type 0 where
  pub number : r ≡ hand_run_number asked
  pub places : after ≡ hand_run_places asked before
