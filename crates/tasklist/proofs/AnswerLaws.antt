-- Laws of what reading gives: what a reading says of the list that was read.
use mathlib.Core.Path.{◌≡◌, refl, sym, ap, subst}
use Rattle.std.specs.Prelude.{Result, Ok, Err}
use Rattle.tasklist.specs.declared.Refusal.{Refusal}
use Rattle.tasklist.specs.declared.Tables.{Tables}
use Rattle.tasklist.specs.TaskList.{TaskList}
use Rattle.tasklist.specs.Decode.{Decoded, refused, accepted}
use Rattle.tasklist.specs.Answers.{refusal_number, Tabled, ReadAs}

-- the list is refused, with the number of the refusal
pub read_refused : (d : Decoded) (r : Result Tables Refusal) (k : Refusal) → r ≡ Err k → ReadAs d r → d ≡ refused (refusal_number k)
read_refused d r k e h = by_list d (subst (ReadAs d) e h)
  where
    by_list : (d : Decoded) → ReadAs d (Err k) → d ≡ refused (refusal_number k)
    by_list (refused n) h = ap refused (sym h)
    by_list (accepted l) h = absurd h

-- the list is accepted, and the tables hold it
pub read_accepted : (d : Decoded) (r : Result Tables Refusal) (t : Tables) → r ≡ Ok t → ReadAs d r → (l : TaskList) × (d ≡ accepted l) × Tabled l t
read_accepted d r t e h = by_list d (subst (ReadAs d) e h)
  where
    by_list : (d : Decoded) → ReadAs d (Ok t) → (l : TaskList) × (d ≡ accepted l) × Tabled l t
    by_list (refused n) h = absurd h
    by_list (accepted l) h = (l, refl, h)

-- a refused list may be read as a refusal of its number
pub refused_read : (d : Decoded) (k : Refusal) → d ≡ refused (refusal_number k) → ReadAs d (Err k)
refused_read d k e = rw e refl
