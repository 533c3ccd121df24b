-- Who may read, write and sum: document 01, "Jobs, order and queues", and the faults of an access.
use Rattle.std.specs.Prelude.{ℕ, List, [], ◌∷◌, Bool, true, false, cond, not, ◌&&◌, ◌||◌, length, get_or, eqb}
use Rattle.semantics.specs.Run.{Task, Run, mode_of, task_of}

-- A location and the mode in which it is asked for.
pub record Access : Type 0 where
  pub location : ℕ
  pub mode : ℕ

abbrev pub reads : ℕ → Access
reads a = record { location = a; mode = 1 }

abbrev pub writes : ℕ → Access
writes a = record { location = a; mode = 2 }

abbrev pub sums : ℕ → Access
sums a = record { location = a; mode = 3 }

-- "what the job's own mode there allows"
abbrev pub own_access : Task → ℕ → Access
own_access t a = record { location = a; mode = mode_of t a }

-- all items pass a test
unfoldable pub every : {A : Type 0} → (A → Bool) → List A → Bool
every test [] = true
every test (a ∷ l) = test a && every test l

-- some item passes a test
unfoldable pub any : {A : Type 0} → (A → Bool) → List A → Bool
any test [] = false
any test (a ∷ l) = test a || any test l

-- the items that pass a test
unfoldable pub only : {A : Type 0} → (A → Bool) → List A → List A
only test [] = []
only test (a ∷ l) = let rest = only test l in cond (test a) (a ∷ rest) rest

-- those ahead of task n: all up to its place
unfoldable pub ahead : ℕ → List ℕ → List ℕ
ahead n [] = []
ahead n (k ∷ ks) = let rest = ahead n ks in cond (eqb k n) [] (k ∷ rest)

-- "The queue of an entry is the order with only the jobs whose mode there isn't 0."
unfoldable pub queue : Run → ℕ → List ℕ
queue r a = only (λ k. not (eqb (mode_of (task_of r k) a) 0)) r.order

-- "A job may read an entry when all ahead of it in that queue have mode 1."
unfoldable pub may_read : Run → ℕ → ℕ → Bool
may_read r n a = every (λ k. eqb (mode_of (task_of r k) a) 1) (ahead n (queue r a))

-- "It may write when none is ahead."
unfoldable pub may_write : Run → ℕ → ℕ → Bool
may_write r n a = eqb (length (ahead n (queue r a))) 0

-- request 107: "A job of mode 3 may sum, and may start as far as that entry goes, when all ahead have mode 3"
unfoldable pub may_sum : Run → ℕ → ℕ → Bool
may_sum r n a = every (λ k. eqb (mode_of (task_of r k) a) 3) (ahead n (queue r a))

-- request 102: "a job of mode write is ahead" in the queue of this location
unfoldable pub behind_writer : Run → ℕ → ℕ → Bool
behind_writer r n a = any (λ k. eqb (mode_of (task_of r k) a) 2) (ahead n (queue r a))

-- Who may go ahead by the whole order, in a table: which mode may stand ahead of which access. A row for each mode ahead (none, read,
-- write, sum), a column for each mode asked for. Laws `read_wording`, `write_wording` and `sum_wording` (proofs/Wording.antt):
-- for a task with a place in the queue this is what `may_read`, `may_write` and `may_sum` say.
abbrev pub compatibility : List (List Bool)
compatibility =
    (true ∷ true ∷ true ∷ true ∷ []) ∷
    (true ∷ true ∷ false ∷ false ∷ []) ∷
    (true ∷ false ∷ false ∷ false ∷ []) ∷
    (true ∷ false ∷ false ∷ true ∷ []) ∷ []

unfoldable pub compatible : ℕ → ℕ → Bool
compatible mode asked = get_or (get_or compatibility mode []) asked false

-- all ahead of task n may stand ahead of this access
unfoldable pub allowed : Run → ℕ → Access → Bool
allowed r n g =
    every (λ k. compatible (mode_of (task_of r k) g.location) g.mode) (ahead n r.order)

-- The fault of an access, 0 for none: "1: entry not in the job's footprint (C and above included). 2: store, or a write line,
-- where its own mode is read." Request 107, a sum: "On a read entry it faults 2; load and store fault 2 on a sum entry. A sum line
-- faults 2 unless the spawner's mode is sum or write; a read or write line faults 2 where it is sum." A row for each own mode, a
-- column for each mode asked for.
abbrev pub access_faults : List (List ℕ)
access_faults =
    (1 ∷ 1 ∷ 1 ∷ 1 ∷ []) ∷
    (0 ∷ 0 ∷ 2 ∷ 2 ∷ []) ∷
    (0 ∷ 0 ∷ 0 ∷ 0 ∷ []) ∷
    (0 ∷ 2 ∷ 2 ∷ 0 ∷ []) ∷ []

unfoldable pub access_fault : ℕ → ℕ → ℕ
access_fault own asked = get_or (get_or access_faults own []) asked 1
