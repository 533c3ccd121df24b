-- Reading a job list: document 01, "Job lists" and the refusals of check.
use Rattle.std.specs.Prelude.{ℕ, ◌+◌, ◌*◌, List, [], ◌∷◌, Bool, cond, ◌&&◌, get_or, leb, ltb, eqb, Option, Some, None}
use Rattle.tasklist.specs.declared.Instruction.{Instruction}
use Rattle.tasklist.specs.declared.Instruction.TheVariants.{Const, Add, Sub, Less, Load, Store, Skip, Spawn, Wait, Fan, Sum, Mul, Div}
use Rattle.tasklist.specs.declared.Line.{Line}
use Rattle.tasklist.specs.declared.Scope.{Scope}
use Rattle.tasklist.specs.declared.Header.{Header}
use Rattle.tasklist.specs.TaskList.{TaskList, task_count}
use Rattle.tasklist.specs.Fields.{Taken, bad, took, and_then, field, only_if, tag, number, many, row}

-- "entries C (1 to 64), footprints (0 to 32), sheets (1 to 32)"
unfoldable pub head_numbers : List ℕ → Taken Header
head_numbers b =
    and_then (number 1 64 3 b) λ c b₁.
    and_then (number 0 32 3 b₁) λ f b₂.
    and_then (number 1 32 3 b₂) λ s b₃.
    took (record { locations = c; footprints = f; bodies = s }) b₃

-- "Head: 4A 48, then .."
unfoldable pub head : List ℕ → Taken Header
head b = and_then (tag 0x48 b) λ _ b₁. head_numbers b₁

-- "Entry below C, register 0 to 3": the number that a line's value is below, by its kind; another kind has no value. Request
-- 107: "line kind 4 sums a fixed entry, 5 one named by a register"
unfoldable pub line_limit : ℕ → ℕ → ℕ
line_limit locations kind = get_or (locations ∷ locations ∷ 4 ∷ 4 ∷ locations ∷ 4 ∷ []) kind 0

unfoldable pub line_ok : ℕ → Line → Bool
unfolding line_limit
line_ok locations l = ltb l.value (line_limit locations l.kind)

unfoldable pub is_line : ℕ → List ℕ → Option Line
unfolding line_ok
is_line locations f =
    let l : Line = record { kind = get_or f 0 0; value = get_or f 1 0 } in
    only_if (line_ok locations l) l

unfoldable pub line : ℕ → List ℕ → Taken Line
unfolding is_line field
line locations = field 2 4 (is_line locations)

-- "Each footprint: 4A 46, a count 0 to 8, then lines of two bytes (kind, value)"
unfoldable pub footprint : ℕ → List ℕ → Taken (List Line)
footprint locations = row 0x46 8 4 (λ _ _. line locations)

-- the thirteen forms in the order of their codes, each with its own fields: "fields not listed are 0"
unfoldable pub forms : ℕ → ℕ → ℕ → List (Option Instruction)
forms a b c =
    Some (Const a (b + 256 * c)) ∷ Some (Add a b c) ∷ Some (Sub a b c) ∷ Some (Less a b c) ∷
    only_if (eqb c 0) (Load a b) ∷ only_if (eqb c 0) (Store a b) ∷ only_if (eqb c 0) (Skip a b) ∷
    only_if (eqb c 0) (Spawn a b) ∷ only_if (eqb b 0 && eqb c 0) (Wait a) ∷
    Some (Fan a b c) ∷ only_if (eqb c 0) (Sum a b) ∷ Some (Mul a b c) ∷ Some (Div a b c) ∷ []

-- "Another code .. is a bad instruction"
unfoldable pub form : ℕ → ℕ → ℕ → ℕ → Option Instruction
unfolding forms
form code a b c = get_or (forms a b c) code None

-- "a register above 3, is a bad instruction"
unfoldable pub register : ℕ → Bool
register r = ltb r 4

-- "A spawn names a footprint of the list and a sheet of the list, higher than its own.", and so does a fan
unfoldable pub spawn_ok : Scope → ℕ → ℕ → Bool
spawn_ok at a b = ltb at.body a && ltb a at.bodies && ltb b at.footprints

-- "A skip from place i with b ends at i + 1 + b, at most the sheet's count."; request 104: "c children (1 to 16)"
unfoldable pub instruction_ok : Scope → Instruction → Bool
instruction_ok at (Const a v) = register a
instruction_ok at (Add a b c) = register a && register b && register c
instruction_ok at (Sub a b c) = register a && register b && register c
instruction_ok at (Less a b c) = register a && register b && register c
instruction_ok at (Load a b) = register a && register b
instruction_ok at (Store a b) = register a && register b
instruction_ok at (Skip a b) = register a && leb (at.place + 1 + b) at.size
instruction_ok at (Spawn a b) = spawn_ok at a b
instruction_ok at (Wait a) = register a
instruction_ok at (Fan a b c) = spawn_ok at a b && leb 1 c && leb c 16
instruction_ok at (Sum a b) = register a && register b
instruction_ok at (Mul a b c) = register a && register b && register c
instruction_ok at (Div a b c) = register a && register b && register c

abbrev pub kept : {A : Type 0} → (A → Bool) → Option A → Option A
kept ok None = None
kept ok (Some a) = only_if (ok a) a

unfoldable pub is_instruction : Scope → List ℕ → Option Instruction
is_instruction at f = kept (instruction_ok at) (form (get_or f 0 0) (get_or f 1 0) (get_or f 2 0) (get_or f 3 0))

unfoldable pub instruction : Scope → List ℕ → Taken Instruction
unfolding is_instruction field
instruction at = field 4 5 (is_instruction at)

abbrev pub scope : Header → ℕ → ℕ → ℕ → Scope
scope h s n i = record { footprints = h.footprints; bodies = h.bodies; body = s; size = n; place = i }

-- "Each sheet: 4A 42, a count 0 to 32, then instructions of four bytes: code, a, b, c"
unfoldable pub body : Header → ℕ → List ℕ → Taken (List Instruction)
body h s = row 0x42 32 5 (λ n i. instruction (scope h s n i))

-- the records behind the head, in their order
unfoldable pub list_behind : Header → List ℕ → Taken TaskList
list_behind h b =
    and_then (many (λ _. footprint h.locations) 0 h.footprints [] b) λ fs b₁.
    and_then (many (body h) 0 h.bodies [] b₁) λ bs b₂.
    took (record { locations = h.locations; footprints = fs; bodies = bs }) b₂

pub data Decoded : Type 0 where
  refused : ℕ → Decoded
  accepted : TaskList → Decoded

-- "count(0) is at most 128", else 7
unfoldable pub sized : TaskList → Decoded
sized l = cond (leb (task_count l 0) 128) (accepted l) (refused 7)

-- "Then 6, bytes left over; then 7, count(0) above 128."
unfoldable pub finish : Taken TaskList → Decoded
finish (bad k) = refused k
finish (took l []) = sized l
finish (took l (x ∷ rest)) = refused 6

-- request 101: "A file of no bytes shall now mean C = 1, no footprints, and one empty sheet."
abbrev pub empty_list : TaskList
empty_list = record { locations = 1; footprints = []; bodies = [] ∷ [] }

unfoldable pub decode : List ℕ → Decoded
decode [] = accepted empty_list
decode (x ∷ b) = finish (and_then (head (x ∷ b)) list_behind)
