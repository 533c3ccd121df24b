-- What a footprint gives a spawned task: document 01, "Each footprint" and the faults of a spawn; and the children of a spawn
-- or a fan.
use Rattle.std.specs.Prelude.{ℕ, zero, suc, List, [], ◌∷◌, ◌++◌, cond, get_or, set, eqb}
use Rattle.tasklist.specs.declared.Line.{Line}
use Rattle.semantics.specs.Run.{Task, mode_of, register, no_modes}
use Rattle.semantics.specs.Access.{Access, access_fault}
use Rattle.semantics.specs.Effect.{child}

-- "Kind 0 reads and 1 writes entry `value`; 2 reads and 3 writes the entry whose number is in register `value`."; request 107:
-- "line kind 4 sums a fixed entry, 5 one named by a register". What one line names, in the order in which it is tested.
unfoldable pub targets : Task → Line → List Access
targets t l =
    let fixed = l.value in
    let named = register t l.value in
    let place = get_or (fixed ∷ fixed ∷ named ∷ named ∷ fixed ∷ named ∷ []) l.kind 0 in
    record { location = place; mode = get_or (1 ∷ 2 ∷ 1 ∷ 2 ∷ 3 ∷ 3 ∷ []) l.kind 0 } ∷ []

-- what all lines name, line by line
unfoldable pub all_targets : Task → List Line → List Access
all_targets t [] = []
all_targets t (l ∷ ls) = targets t l ++ all_targets t ls

-- What a footprint gives a child: modes, or the fault of the spawn.
pub data Grant : Type 0 where
  denied : ℕ → Grant
  granted : List ℕ → Grant

-- Request 106: "An entry named twice now counts once: with the common mode, or with write where the modes differ." The mode
-- granted so far, 0 for none, with that of one more line.
unfoldable pub merged : ℕ → ℕ → ℕ
merged zero mode = mode
merged (suc m) zero = suc m
merged (suc m) (suc k) = cond (eqb m k) (suc k) 2

-- a fault, 0 for none, denies
unfoldable pub unless_denied : ℕ → Grant → Grant
unless_denied zero g = g
unless_denied (suc k) g = denied (suc k)

-- The modes granted so far, and those that these accesses add, by the spawner's own modes. Request 106: "Lines are still
-- tested for faults 1 and 2 in turn."
unfoldable pub grant : Task → List ℕ → List Access → Grant
grant t so_far [] = granted so_far
grant t so_far (g ∷ gs) =
    unless_denied (access_fault (mode_of t g.location) g.mode)
    (grant t (set so_far g.location (merged (get_or so_far g.location 0) g.mode)) gs)

-- "its footprint's modes": what these lines give a child of task t
unfoldable pub child_modes : Task → List Line → Grant
child_modes t ls = grant t no_modes (all_targets t ls)

-- the children that a spawn or a fan makes, foremost first, or its fault
pub data Children : Type 0 where
  none_made : ℕ → Children
  all_made : List Task → Children

-- the child of this grant ahead of the others
unfoldable pub with_first : ℕ → Task → Grant → Children → Children
with_first s t (denied k) others = none_made k
with_first s t (granted modes) (none_made k) = none_made k
with_first s t (granted modes) (all_made ts) = all_made (child s modes t ∷ ts)

-- A child of body s and these lines for each task, which is the spawner as that child sees it. Request 104: "If any child
-- would fault, in order of children and lines, none is made."
unfoldable pub children : ℕ → List Line → List Task → Children
children s ls [] = all_made []
children s ls (t ∷ ts) = with_first s t (child_modes t ls) (children s ls ts)

-- request 104: "Child i has R0 = i, and its footprint is found with that R0."
abbrev pub first_register : ℕ → Task → Task
first_register i t = record t { registers = set t.registers 0 i }

-- the spawner as k children see it, from child i on
unfoldable pub fan_of : ℕ → ℕ → Task → List Task
fan_of i zero t = []
fan_of i (suc k) t = first_register i t ∷ fan_of (suc i) k t
