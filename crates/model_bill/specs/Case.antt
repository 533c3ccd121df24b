-- What a worked case of request 114 says, as a test that computes. Runs are under today's weights.
use Rattle.std.specs.Prelude.{ℕ, List, Bool, false, ◌&&◌, eqb}
use Rattle.tasklist.specs.TaskList.{TaskList}
use Rattle.semantics.specs.Run.{Run, Context, context, fixed_weights, initial}
use Rattle.semantics.specs.Call.{Call, after_all}
use Rattle.semantics.specs.Sequential.{sequential}
use Rattle.semantics.specs.Operations.{Asked, denies, gives}
use Rattle.semantics.specs.Case.{same, asked_number}
use Rattle.model_bill.specs.Bill.{wards, ward_weights, shares_asked}

pub data Case : Type 0 where
  -- the wards that the hand run of a list and a library makes, and their weights
  has_wards : TaskList → List ℕ → List ℕ → List ℕ → Case
  -- the shares of a bill after it
  pays : TaskList → List ℕ → ℕ → List ℕ → Case
  -- the refusal of a bill after it, by the places of the slice
  refuses : TaskList → List ℕ → ℕ → ℕ → ℕ → Case
  -- the wards after these calls on a fresh run, and their weights
  has_wards_after : TaskList → List ℕ → List Call → List ℕ → List ℕ → Case
  -- the refusal of a bill after them
  refuses_after : TaskList → List ℕ → List Call → ℕ → ℕ → ℕ → Case

unfoldable pub shares_are : Asked (List ℕ) → List ℕ → Bool
shares_are (denies k) shares = false
shares_are (gives given) shares = same given shares

abbrev pub under : TaskList → Context
under l = context l fixed_weights

unfoldable pub holds : Case → Bool
holds (has_wards l m ns ws) =
    same (wards (under l) (sequential (under l) m)) ns && same (ward_weights (under l) (sequential (under l) m)) ws
holds (pays l m bill shares) = shares_are (shares_asked (under l) (sequential (under l) m) bill 128) shares
holds (refuses l m bill room k) = eqb (asked_number (shares_asked (under l) (sequential (under l) m) bill room)) k
holds (has_wards_after l m calls ns ws) =
    same (wards (under l) (after_all (under l) (initial (under l) m) calls)) ns
    && same (ward_weights (under l) (after_all (under l) (initial (under l) m) calls)) ws
holds (refuses_after l m calls bill room k) =
    eqb (asked_number (shares_asked (under l) (after_all (under l) (initial (under l) m) calls) bill room)) k
