-- What the functions promise.
use Rattle.std.specs.Prelude.{ℕ, ◌≤◌, ◌≡◌, List, length, take, drop, Result, IfOk, IfErr}
use Rattle.runtime.specs.declared.Run.{Run}
use Rattle.runtime.specs.declared.OpenRefusal.{OpenRefusal}
use Rattle.runtime.specs.View.{model, context_of, SoundRun}
use Rattle.runtime.specs.Asked.{open_number}
use Rattle.wording.specs.Wording.{refused_line}
use Rattle.wording.specs.Promises.{Wrote, PutAt, given}
use Rattle.host_bill.specs.Lines.{bill_text, room}

-- What is printed of a run, put at the front of a slice with room.
pub record RunPrinted (run : Run) (bill : ℕ) (before after : List ℕ) (n : ℕ) : Type 0 where
  -- of a run that came from open, the hand run or calls
  pub lines : SoundRun run → PutAt (bill_text (context_of run) (model run) bill) before 0 after n
  -- of every run
  pub most : n ≤ room
  pub long : length after ≡ length before
  pub rest : drop n after ≡ drop n before

-- What is printed of a run that was asked for: nothing without room.
pub record BillPrinted (opened : Result Run OpenRefusal) (bill : ℕ) (before after : List ℕ) (n : ℕ) : Type 0 where
  -- the line of a failed open
  pub refused : IfErr opened (λ k. Wrote (given room before (refused_line (open_number k))) before after n)
  -- the lines of a run that came from open, the hand run or calls
  pub lines :
      IfOk opened (λ run. SoundRun run → Wrote (given room before (bill_text (context_of run) (model run) bill)) before after n)
  -- of every run
  pub within : n ≤ length after
  pub whole : n ≡ length (take n after)
  pub long : length after ≡ length before
  pub rest : drop n after ≡ drop n before
