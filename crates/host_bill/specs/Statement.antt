-- What the program bill prints, of its functions one after the other as its `main` calls them: proved in proofs/Whole.antt. What
-- `main` itself does is read and written bytes, of which no contract speaks.
use Rattle.std.specs.Prelude.{ℕ, ◌+◌, ◌≤◌, ◌≡◌, List, [], ◌∷◌, length, Result, Ok, Err, IsOkAnd}
use Rattle.tasklist.specs.TaskList.{TaskList}
use Rattle.tasklist.specs.Decode.{decode, accepted}
use Rattle.tasklist.specs.Encode.{joined}
use Rattle.library.specs.Library.{memory_of}
use Rattle.semantics.specs.Run.{context, fixed_weights, initial}
use Rattle.semantics.specs.Call.{after_all}
use Rattle.semantics.specs.Operations.{open_asked, sequential_asked}
use Rattle.runtime.specs.declared.Run.{Run}
use Rattle.runtime.specs.declared.OpenRefusal.{OpenRefusal}
use Rattle.runtime.specs.Asked.{OpenedAs}
use Rattle.lent.specs.declared.Lent.{Lent}
use Rattle.lent.specs.Pieces.{LentOf}
use Rattle.lent.specs.Lines.{calls_in}
use Rattle.wording.specs.Promises.{Wrote, given}
use Rattle.host_bill.specs.Lines.{room, hand_bill, calls_bill}
use Rattle.host_bill.specs.Promises.{BillPrinted}

-- the whole file of calls
abbrev pub all_of : List (List ℕ) → List ℕ
all_of pieces = joined (λ piece. piece) pieces

-- `lend` is given a run and a piece, and what it leaves is given to the next. No piece has more than 512 bytes, and all but the last
-- have an even number.
abbrev pub Pieces : Run → List (List ℕ) → Run → Type 0
Pieces run [] last = run ≡ last
Pieces run (piece ∷ []) last = (length piece ≤ 512) × (r : Lent) × LentOf piece run r × (r.run ≡ last)
Pieces run (piece ∷ next ∷ pieces) last =
    (length piece ≤ 512) × (half : ℕ) × (length piece ≡ half + half) × (r : Lent) × LentOf piece run r
    × Pieces r.run (next ∷ pieces) last

-- without a file of calls: `hand_run_files`, then `bill_lines`
abbrev pub HandBilled : Type 0
HandBilled =
    (jobs library : List ℕ) (o : Result Run OpenRefusal) (bill : ℕ) (before after : List ℕ) (n : ℕ)
    → OpenedAs jobs fixed_weights (sequential_asked jobs (memory_of library) fixed_weights) o → BillPrinted o bill before after n
    → Wrote (given room before (hand_bill jobs library bill)) before after n

-- what was opened is led on by the pieces; a refusal stays
abbrev pub Led : Result Run OpenRefusal → List (List ℕ) → Result Run OpenRefusal → Type 0
Led (Ok run) pieces led = IsOkAnd led (Pieces run pieces)
Led (Err k) pieces led = led ≡ Err k

-- with one: `open_files`, the pieces, then `bill_lines`
abbrev pub CallsBilled : Type 0
CallsBilled =
    (jobs library : List ℕ) (o led : Result Run OpenRefusal) (bill : ℕ) (before after : List ℕ) (n : ℕ)
    → OpenedAs jobs fixed_weights (open_asked jobs (memory_of library) fixed_weights) o → (pieces : List (List ℕ)) → Led o pieces led
    → BillPrinted led bill before after n → Wrote (given room before (calls_bill jobs library (all_of pieces) bill)) before after n

-- "all lists of calls from a fresh run that leave no job give the same shares": what is printed with them is what is printed without
abbrev pub SameBill : Type 0
SameBill =
    (jobs library input : List ℕ) (l : TaskList) → decode jobs ≡ accepted l
    → (after_all (context l fixed_weights) (initial (context l fixed_weights) (memory_of library)) (calls_in input)).order ≡ []
    → (bill : ℕ) → calls_bill jobs library input bill ≡ hand_bill jobs library bill
