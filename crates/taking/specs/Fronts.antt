-- What the takers of the code answer, as document 01's taken fields: each takes a field from the front of the bytes, and gives
-- what it holds and the bytes behind it.
use Rattle.std.specs.Prelude.{ℕ, List, Result, Ok, Err}
use Rattle.std.specs.Borrow.{Bor}
use Rattle.tasklist.specs.declared.Refusal.{Refusal}
use Rattle.tasklist.specs.Fields.{Taken, bad, took}
use Rattle.tasklist.specs.Answers.{refusal_number}

-- what was taken, and the bytes behind it
abbrev pub taken : {A : Type 0} → Result (A × Bor (List ℕ)) Refusal → Taken A
taken (Ok (a, rest)) = took a rest.now
taken (Err k) = bad (refusal_number k)

-- what was taken into a place of the caller's, where the answer is the bytes behind it
abbrev pub taken_into : {A : Type 0} → A → Result (Bor (List ℕ)) Refusal → Taken A
taken_into a (Ok rest) = took a rest.now
taken_into a (Err k) = bad (refusal_number k)

-- a mark holds nothing: the bytes behind it
abbrev pub tag_taken : Result (Bor (List ℕ)) Refusal → Taken (Unit {0})
tag_taken = taken_into tt
