-- How large the numbers of a table are.
use Rattle.std.specs.Prelude.{ℕ, ◌*◌, ◌≤◌, ◌≡◌, List, length, get_or}
use Rattle.model_rounds.specs.Rounds.{most_rounds, most_workers, all_workers}
use Rattle.run_rounds.specs.declared.Tally.{Tally}

-- no more than a call of each task a round
abbrev pub most_calls : ℕ
most_calls = all_workers * most_rounds

-- the tally at a place among these, of no rounds beyond them
abbrev pub tally_in : List Tally → ℕ → Tally
tally_in reports place = get_or reports place (record { rounds = 0; calls = 0 })

-- how large the numbers of a table of this span and these reports are
pub record TableSize (span : ℕ) (reports : List Tally) : Type 0 where
  pub long : length reports ≡ most_workers
  pub few_rounds : (k : ℕ) → (tally_in reports k).rounds ≤ most_rounds
  pub few_calls : (k : ℕ) → (tally_in reports k).calls ≤ most_calls
  pub few : span ≤ most_rounds
