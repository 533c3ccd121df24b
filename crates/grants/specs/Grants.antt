-- What a footprint's line names, what the code's answer to a footprint stands for, and what several children are given.
use Rattle.std.specs.Prelude.{ℕ, zero, suc, List, [], ◌∷◌, Result, Ok, Err, get_or, set}
use Rattle.tasklist.specs.declared.Line.{Line}
use Rattle.semantics.specs.declared.Fault.{Fault}
use Rattle.semantics.specs.Answers.{fault_number}
use Rattle.semantics.specs.Run.{Task}
use Rattle.semantics.specs.Footprint.{Grant, denied, granted, child_modes}

-- the location and the mode of a line, as in the model's `targets`
unfoldable pub named_location : List ℕ → Line → ℕ
named_location registers l =
    let fixed = l.value in
    let named = get_or registers l.value 0 in
    get_or (fixed ∷ fixed ∷ named ∷ named ∷ fixed ∷ named ∷ []) l.kind 0

unfoldable pub named_mode : Line → ℕ
named_mode l = get_or (1 ∷ 2 ∷ 1 ∷ 2 ∷ 3 ∷ 3 ∷ []) l.kind 0

-- a task of which only registers and modes matter (law `any_spawner`, proofs/GrantLaws.antt)
abbrev pub spawner : List ℕ → List ℕ → Task
spawner registers modes =
    record {
      state = 0;
      body = 0;
      pc = 0;
      registers = registers;
      modes = modes;
      steps = 0;
      fault = 0;
      weight = 0;
    }

-- the number of a fault, 0 for none
abbrev pub fault_of : Result Unit Fault → ℕ
fault_of (Err k) = fault_number k
fault_of (Ok done) = 0

-- the model's answer
abbrev pub grant_of : Result (List ℕ) Fault → Grant
grant_of (Err k) = denied (fault_number k)
grant_of (Ok modes) = granted modes

-- request 104: "Child i has R0 = i": the registers of child i, by those of the foremost, child 0
unfoldable pub child_registers : ℕ → List ℕ → List ℕ
child_registers zero registers = registers
child_registers (suc i) registers = set registers 0 (suc i)

-- "its footprint is found with that R0": what these lines give child i
unfoldable pub child_grant : List ℕ → List ℕ → List Line → ℕ → Grant
child_grant registers modes ls i = child_modes (spawner (child_registers i registers) modes) ls

-- this child's fault, or what comes of those after it
unfoldable pub unless_faulted : Grant → Grant → Grant
unless_faulted (denied k) rest = denied k
unless_faulted (granted modes) rest = rest

-- "in order of children": the first fault of the k children from i on, else what the last of them is given
unfoldable pub grants_from : (ℕ → Grant) → ℕ → ℕ → Grant → Grant
grants_from f i zero last = last
grants_from f i (suc k) last = unless_faulted (f i) (grants_from f (suc i) k (f i))
