-- Document 01's numbers and values of the code's answers.
use Rattle.std.specs.Prelude.{ℕ, ◌≡◌, List, ◌++◌, cond, length, drop, get_or, leb, Result, Ok, Err, IsOkAnd, IsErrAnd}
use Rattle.tasklist.specs.declared.Refusal.{Refusal}
use Rattle.tasklist.specs.declared.Refusal.TheVariants.{Incomplete, Tag, Head, Footprint, Body, Leftover, Tasks}
use Rattle.tasklist.specs.declared.Short.{Short}
use Rattle.tasklist.specs.declared.Tables.{Tables}
use Rattle.tasklist.specs.TaskList.{TaskList, task_count}
use Rattle.tasklist.specs.Decode.{Decoded, refused, accepted}
use Rattle.tasklist.specs.Tables.{Holds}

-- "A refusal returns its number alone"; success gives a value
pub data Answer : Type 0 where
  refuses : ℕ → Answer
  gives : ℕ → Answer

abbrev pub refusal_number : Refusal → ℕ
refusal_number Incomplete = 1
refusal_number Tag = 2
refusal_number Head = 3
refusal_number Footprint = 4
refusal_number Body = 5
refusal_number Leftover = 6
refusal_number Tasks = 7

abbrev pub checked : Result ℕ Refusal → Answer
checked (Ok n) = gives n
checked (Err k) = refuses (refusal_number k)

-- "check gives count(0)"
abbrev pub check_answer : Decoded → Answer
check_answer (refused k) = refuses k
check_answer (accepted l) = gives (task_count l 0)

-- tables that hold an accepted list, and its count(0) as check gives it
pub record Tabled (l : TaskList) (t : Tables) : Type 0 where
  pub holds : Holds t l
  pub count : get_or t.counts 0 1 ≡ task_count l 0

-- a reading that gives what a decoded list says: the refusal of that number, or the tables of the list
abbrev pub ReadAs : Decoded → Result Tables Refusal → Type 0
ReadAs (refused k) r = IsErrAnd r (λ e. refusal_number e ≡ k)
ReadAs (accepted l) r = IsOkAnd r (Tabled l)

abbrev pub written : Result ℕ Short → Answer
written (Ok n) = gives n
written (Err e) = refuses 17

-- "17 lent slice too short"; else "how many places they wrote"
unfoldable pub write_answer : List ℕ → List ℕ → Answer
write_answer bytes out = cond (leb (length bytes) (length out)) (gives (length bytes)) (refuses 17)

-- "Success writes the named places only"; a refusal writes none
unfoldable pub write_places : List ℕ → List ℕ → List ℕ
write_places bytes out = cond (leb (length bytes) (length out)) (bytes ++ drop (length bytes) out) out
