-- What the tasks ahead do to the accesses of a call, by the table of modes.
use Rattle.std.specs.Prelude.{ℕ, suc, List, [], ◌∷◌, Bool, true, false, Result, Ok, Err, cond, map, take, get_or, eqb}
use Rattle.semantics.specs.declared.CallRefusal.{CallRefusal}
use Rattle.semantics.specs.declared.CallRefusal.TheVariants.{BehindWriter, BehindOthers}
use Rattle.semantics.specs.Access.{Access, every, any, compatible}
use Rattle.semantics.specs.Search.{Found, found}
use Rattle.ahead.specs.declared.Hold.{Hold}
use Rattle.ahead.specs.declared.Hold.TheVariants.{Free, Writer, Others}
use Rattle.ahead.specs.declared.Searched.{Searched}
use Rattle.ahead.specs.declared.Access as Declared
use Rattle.ahead.specs.declared.accesses.Wanted.{Wanted}
use Rattle.arrays.specs.Rows.{row}

abbrev pub access : ℕ → ℕ → Access
access location mode = record { location = location; mode = mode }

-- the accesses that stand in one value
abbrev pub wanted : Wanted → List Declared.Access
wanted w = take w.count w.accesses

-- the accesses in the model's words
unfoldable pub accesses_of : List Declared.Access → List Access
accesses_of = map (λ g. access g.location g.asked)

-- task k has mode write at the location of one of these accesses
unfoldable pub writes_one : List ℕ → List Access → ℕ → Bool
writes_one modes gs k = any (λ g. eqb (get_or (row k modes) g.location 0) 2) gs

-- task k may stand ahead of all of them
unfoldable pub passes_all : List ℕ → List Access → ℕ → Bool
passes_all modes gs k = every (λ g. compatible (get_or (row k modes) g.location 0) g.mode) gs

-- what comes of it that there is a writer, and that all pass
abbrev pub held_by : Bool → Bool → Hold
held_by true passed = Writer
held_by false true = Free
held_by false false = Others

-- what a call is answered that is held back so: request 102's 19 behind a writer, 20 behind others
abbrev pub past : Hold → Result Unit CallRefusal
past Free = Ok tt
past Writer = Err BehindWriter
past Others = Err BehindOthers

-- what these tasks do to these accesses
unfoldable pub hold_ahead : List ℕ → List ℕ → List Access → Hold
hold_ahead modes tasks gs = held_by (any (writes_one modes gs) tasks) (every (passes_all modes gs) tasks)

-- the place of the first item that passes a test, counted from 1; behind the last where none does
unfoldable pub first_place : {A : Type 0} → (A → Bool) → List A → ℕ
first_place test [] = 1
first_place test (a ∷ l) = cond (test a) 1 (suc (first_place test l))

-- what a search of a task with these tasks ahead of it finds: it stops at the first writer, or at the task itself
unfoldable pub searched_ahead : List ℕ → List ℕ → List Access → Searched
searched_ahead modes tasks gs =
    record { hold = hold_ahead modes tasks gs; looked = first_place (writes_one modes gs) tasks }

-- the same in the model's words
abbrev pub found_by : Hold → ℕ → Found
found_by Free looked = found false true looked
found_by Writer looked = found true false looked
found_by Others looked = found false false looked

unfoldable pub found_of : Searched → Found
found_of s = found_by s.hold s.looked
