-- What the two public functions promise: document 02, request 111. What is reported, says the model (`model_rounds`, Rounds).
use Rattle.std.specs.Prelude.{ℕ, ◌-◌, ◌≤◌, ◌≡◌, List, Result, Ok, Err, IsOkAnd, IsErrAnd}
use Rattle.semantics.specs.Run as Semantics
use Rattle.semantics.specs.Operations.{Asked, denies, gives}
use Rattle.model_rounds.specs.Rounds.{Report, most_workers, rounds_asked}
use Rattle.runtime.specs.declared.OpenRefusal.{OpenRefusal}
use Rattle.runtime.specs.Asked.{open_number}
use Rattle.run_rounds.specs.declared.RoundsRefusal.{RoundsRefusal}
use Rattle.run_rounds.specs.declared.RoundsRefusal.TheVariants.{Workers, Unopened}
use Rattle.run_rounds.specs.declared.Rounded.{Rounded}
use Rattle.run_rounds.specs.declared.table.RoundsTable.{RoundsTable}
use Rattle.run_rounds.specs.declared.Tally.{Tally}
use Rattle.run_rounds.specs.Sizes.{tally_in}

-- "(24 for P outside 1 to 16, before all else.)", then open's numbers
abbrev pub rounds_number : RoundsRefusal → ℕ
rounds_number Workers = 24
rounds_number (Unopened k) = open_number k

-- "report the rounds, the calls, and the span"; "A refusal returns its number alone"
abbrev pub reported : Result Rounded RoundsRefusal → Asked Report
reported (Ok r) = gives (record { rounds = r.rounds; calls = r.calls; span = r.span })
reported (Err k) = denies (rounds_number k)

-- the tally at a place of a table
abbrev pub tally_at : RoundsTable → ℕ → Tally
tally_at r place = tally_in r.reports place

-- the report with so many workers that a table holds
abbrev pub report_at : RoundsTable → ℕ → Report
report_at r workers =
    record {
      rounds = (tally_at r (workers - 1)).rounds;
      calls = (tally_at r (workers - 1)).calls;
      span = r.span;
    }

-- a table of what is reported with each number of workers that may be asked for
abbrev pub Tabled : List ℕ → List ℕ → List ℕ → RoundsTable → Type 0
Tabled bytes memory weights r =
    (workers : ℕ) → 1 ≤ workers → workers ≤ most_workers → rounds_asked workers bytes memory weights ≡ gives (report_at r workers)

-- what is handed back, where open answers so: its refusal, or a table
abbrev pub TabledAs : List ℕ → List ℕ → List ℕ → Asked Semantics.Run → Result RoundsTable OpenRefusal → Type 0
TabledAs bytes memory weights (denies k) r = IsErrAnd r (λ e. open_number e ≡ k)
TabledAs bytes memory weights (gives fresh) r = IsOkAnd r (Tabled bytes memory weights)
