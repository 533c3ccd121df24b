-- The cases that the code takes from the front. Assumes nothing.
use Rattle.std.specs.Prelude.{◌≡◌, List, [], ℕ, Option, Some, None}
use Rattle.std.specs.Borrow.{Bor}
use Rattle.casecheck.specs.declared.file.Case.{Case}
use Rattle.casecheck.specs.File.{Parts, case_front}

-- the bytes of its parts
abbrev pub parts_of : Case → Parts
parts_of c = record { list = c.list.now; numbers = c.numbers.now; calls = c.calls.now }

abbrev pub case_split : Option (Case × Bor (List ℕ)) → Option (Parts × List ℕ)
case_split None = None
case_split (Some p) = Some (parts_of p.0, p.1.now)

-- one case more, from the bytes before to the bytes behind it: none where there are no bytes; where they end within a case, none
-- is behind it
abbrev pub NextCase : List ℕ → Option (Option Case) → List ℕ → Type 0
NextCase before None behind = (before ≡ []) × (behind ≡ [])
NextCase before (Some None) behind = (case_front before ≡ None) × (behind ≡ [])
NextCase before (Some (Some c)) behind = case_front before ≡ Some (parts_of c, behind)
