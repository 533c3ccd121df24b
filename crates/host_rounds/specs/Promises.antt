-- What the parts promise each other.
use Rattle.std.specs.Prelude.{ℕ, ◌-◌}
use Rattle.run_rounds.specs.declared.table.RoundsTable.{RoundsTable}
use Rattle.run_rounds.specs.Reports.{tally_at}

-- the rounds with so many workers that a table holds
abbrev pub rounds_at : RoundsTable → ℕ → ℕ
rounds_at r workers = (tally_at r (workers - 1)).rounds

-- the calls with one worker that it holds
abbrev pub calls_in : RoundsTable → ℕ
calls_in r = (tally_at r 0).calls
