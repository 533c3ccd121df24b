-- The search for what holds a task back: document 02, request 103.
use Rattle.std.specs.Prelude.{ℕ, suc, List, [], ◌∷◌, Bool, true, false, cond, ◌&&◌, eqb}
use Rattle.semantics.specs.Run.{Run, mode_of, task_of}
use Rattle.semantics.specs.Access.{Access, every, any, compatible}

-- task k has mode write at the location of one of these accesses
abbrev pub writes_one : Run → List Access → ℕ → Bool
writes_one r gs k = any (λ g. eqb (mode_of (task_of r k) g.location) 2) gs

-- task k stands in the way of none of them
abbrev pub passes_all : Run → List Access → ℕ → Bool
passes_all r gs k = every (λ g. compatible (mode_of (task_of r k) g.location) g.mode) gs

-- What a search finds.
pub record Found : Type 0 where
  -- it stopped at a task of mode write
  pub writer : Bool
  -- it stopped at the task itself, and all ahead may stand ahead
  pub passed : Bool
  -- "how many jobs it looked at: exactly the place in the order where it stopped, counted from 1"
  pub looked : ℕ

abbrev pub found : Bool → Bool → ℕ → Found
found writer passed looked = record { writer = writer; passed = passed; looked = looked }

-- the search goes on behind a task that it looked at
abbrev pub behind : Bool → Found → Found
behind passes f = found f.writer (passes && f.passed) (suc f.looked)

-- "the search for what holds a job back shall go from the front and stop at the first job of mode write on one of #102's
-- entries, or at the job itself"
unfoldable pub search_from : Run → ℕ → List Access → List ℕ → Found
search_from r n gs [] = found false true 0
search_from r n gs (k ∷ ks) =
    let further = behind (passes_all r gs k) (search_from r n gs ks) in
    cond (eqb k n) (found false true 1) (cond (writes_one r gs k) (found true false 1) further)

-- the search of task n for these accesses
unfoldable pub search : Run → ℕ → List Access → Found
search r n gs = search_from r n gs r.order

-- request 102's number for what it found, 0 where nothing holds the task back
unfoldable pub hold_number : Found → ℕ
hold_number f = cond f.writer 19 (cond f.passed 0 20)
