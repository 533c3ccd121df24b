-- A job list as document 01 has it: a count of locations (entries), footprints of lines, and bodies (sheets) of
-- instructions; and the task counts, count(s).
use Rattle.std.specs.Prelude.{ℕ, suc, ◌+◌, ◌-◌, ◌*◌, List, [], ◌∷◌, cond, leb, get_or}
use Rattle.tasklist.specs.declared.Instruction.{Instruction}
use Rattle.tasklist.specs.declared.Instruction.TheVariants.{Const, Add, Sub, Less, Load, Store, Skip, Spawn, Wait, Fan, Sum, Mul, Div}
use Rattle.tasklist.specs.declared.Line.{Line}

-- "Footprints and sheets are numbered from 0": the number is the place in the list
pub record TaskList : Type 0 where
  pub locations : ℕ
  pub footprints : List (List Line)
  pub bodies : List (List Instruction)

-- what stands where no instruction is: const R0 0
abbrev pub blank_instruction : Instruction
blank_instruction = Const 0 0

-- the body of a number, empty where there is none
unfoldable pub body_of : TaskList → ℕ → List Instruction
body_of l s = get_or l.bodies s []

-- the footprint of a number, empty where there is none
unfoldable pub footprint_of : TaskList → ℕ → List Line
footprint_of l f = get_or l.footprints f []

unfoldable pub instruction_of : TaskList → ℕ → ℕ → Instruction
unfolding body_of
instruction_of l s i = get_or (body_of l s) i blank_instruction

unfoldable pub total : {A : Type 0} → (A → ℕ) → List A → ℕ
total f [] = 0
total f (a ∷ l) = f a + total f l

-- what one instruction adds to its body's count: "count(a) for each spawn"; request 104: "The fan adds c × count(a)"
unfoldable pub adds : (ℕ → ℕ) → Instruction → ℕ
adds count (Const a v) = 0
adds count (Add a b c) = 0
adds count (Sub a b c) = 0
adds count (Less a b c) = 0
adds count (Load a b) = 0
adds count (Store a b) = 0
adds count (Skip a b) = 0
adds count (Spawn a b) = count a
adds count (Wait a) = 0
adds count (Fan a b c) = c * count a
adds count (Sum a b) = 0
adds count (Mul a b c) = 0
adds count (Div a b c) = 0

-- "count(s) is 1 plus count(a) for each spawn in sheet s, passed over or not"
unfoldable pub count_body : (ℕ → ℕ) → List Instruction → ℕ
count_body count is = suc (total (adds count) is)

-- the count of body a, where those of bodies s and up are known; 1 for any other
unfoldable pub count_from : ℕ → List ℕ → ℕ → ℕ
count_from s known a = cond (leb s a) (get_or known (a - s) 1) 1

-- the counts of bodies s and up, given those bodies: a spawn names a higher body, so a body's count looks only at
-- the counts behind it
unfoldable pub counts : ℕ → List (List Instruction) → List ℕ
counts s [] = []
counts s (b ∷ bs) =
    let rest = counts (suc s) bs in
    count_body (count_from (suc s) rest) b ∷ rest

-- document 01's count(s); 1 where there is no body
unfoldable pub task_count : TaskList → ℕ → ℕ
task_count l s = get_or (counts 0 l.bodies) s 1
