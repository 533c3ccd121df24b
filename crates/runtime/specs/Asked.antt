-- What open, record, queue and write promise: document 01, "Calls" and "Refused, by operation". What the last three promise
-- holds of every run.
use Rattle.std.specs.Prelude.{◌≡◌, ℕ, List, ◌++◌, length, drop, Result, Ok, Err, IsOkAnd, IsErrAnd}
use Rattle.tasklist.specs.Decode.{decode, accepted}
use Rattle.tasklist.specs.Tables.{list_of}
use Rattle.tasklist.specs.Answers as Listed
use Rattle.semantics.specs.declared.CallRefusal.{CallRefusal}
use Rattle.semantics.specs.Run.{Task}
use Rattle.semantics.specs.Run as Semantics
use Rattle.semantics.specs.Operations.{Asked, denies, gives}
use Rattle.semantics.specs.Answers.{refusal_number, task_from}
use Rattle.runtime.specs.declared.Run.{Run}
use Rattle.runtime.specs.declared.OpenRefusal.{OpenRefusal}
use Rattle.runtime.specs.declared.OpenRefusal.TheVariants as Opening
use Rattle.runtime.specs.declared.Recorded.{Recorded}
use Rattle.runtime.specs.View.{model, SoundRun}

-- "Open and hand run: as check, then 8, library length not C."; request 105: "After 8: 21 wrong length, 22 a number not in 1 to
-- 1000."
unfoldable pub open_number : OpenRefusal → ℕ
open_number (Opening.List k) = Listed.refusal_number k
open_number Opening.Length = 8
open_number Opening.Table = 21
open_number Opening.Weight = 22

-- "A refusal returns its number alone"
abbrev pub Unopened : ℕ → Result Run OpenRefusal → Type 0
Unopened k r = IsErrAnd r (λ e. open_number e ≡ k)

-- a run of the list that the bytes hold, under these weights
pub record Running (bytes weights : List ℕ) (given : Semantics.Run) (r : Run) : Type 0 where
  pub run : model r ≡ given
  pub list : decode bytes ≡ accepted (list_of r.tables)
  pub table : r.weights ≡ weights
  pub sound : SoundRun r

-- what open and the sequential run answer
abbrev pub OpenedAs : List ℕ → List ℕ → Asked Semantics.Run → Result Run OpenRefusal → Type 0
OpenedAs bytes weights (denies k) r = Unopened k r
OpenedAs bytes weights (gives given) r = IsOkAnd r (Running bytes weights given)

-- what an answer stands for, or the refusal of it
abbrev pub unless_refused : {A B : Type 0} → (A → B) → Result A CallRefusal → Asked B
unless_refused f (Ok a) = gives (f a)
unless_refused f (Err k) = denies (refusal_number k)

-- "Record gives one job's record."
unfoldable pub recorded : Result Recorded CallRefusal → Asked Task
recorded r = unless_refused (λ (r : Recorded). task_from r.task r.modes) r

unfoldable pub queued : Result ℕ CallRefusal → Listed.Answer
queued (Ok n) = Listed.gives n
queued (Err k) = Listed.refuses (refusal_number k)

-- "queue and writer [give] how many places they wrote"
unfoldable pub queue_answer : Asked (List ℕ) → Listed.Answer
queue_answer (denies k) = Listed.refuses k
queue_answer (gives places) = Listed.gives (length places)

-- "Success writes the named places only"; a refusal writes none
unfoldable pub queue_out : Asked (List ℕ) → List ℕ → List ℕ
queue_out (denies k) out = out
queue_out (gives places) out = places ++ drop (length places) out

-- the lent places before and after a queue that was asked for
pub record QueuedAs (asked : Asked (List ℕ)) (before after : List ℕ) (r : Result ℕ CallRefusal) : Type 0 where
  pub answer : queued r ≡ queue_answer asked
  pub places : after ≡ queue_out asked before
