-- Writing a job list: the same records, document 01, "Job lists".
use Rattle.std.specs.Prelude.{ℕ, ◌/◌, ◌%◌, List, [], ◌∷◌, ◌++◌, length}
use Rattle.tasklist.specs.declared.Instruction.{Instruction}
use Rattle.tasklist.specs.declared.Instruction.TheVariants.{Const, Add, Sub, Less, Load, Store, Skip, Spawn, Wait, Fan, Sum, Mul, Div}
use Rattle.tasklist.specs.declared.Line.{Line}
use Rattle.tasklist.specs.TaskList.{TaskList}

-- an instruction's number and values: its code, a, b and c, "fields not listed are 0"
unfoldable pub instruction_fields : Instruction → List ℕ
instruction_fields (Const a v) = 0 ∷ a ∷ v % 256 ∷ v / 256 % 256 ∷ []
instruction_fields (Add a b c) = 1 ∷ a ∷ b ∷ c ∷ []
instruction_fields (Sub a b c) = 2 ∷ a ∷ b ∷ c ∷ []
instruction_fields (Less a b c) = 3 ∷ a ∷ b ∷ c ∷ []
instruction_fields (Load a b) = 4 ∷ a ∷ b ∷ 0 ∷ []
instruction_fields (Store a b) = 5 ∷ a ∷ b ∷ 0 ∷ []
instruction_fields (Skip a b) = 6 ∷ a ∷ b ∷ 0 ∷ []
instruction_fields (Spawn a b) = 7 ∷ a ∷ b ∷ 0 ∷ []
instruction_fields (Wait a) = 8 ∷ a ∷ 0 ∷ 0 ∷ []
instruction_fields (Fan a b c) = 9 ∷ a ∷ b ∷ c ∷ []
instruction_fields (Sum a b) = 10 ∷ a ∷ b ∷ 0 ∷ []
instruction_fields (Mul a b c) = 11 ∷ a ∷ b ∷ c ∷ []
instruction_fields (Div a b c) = 12 ∷ a ∷ b ∷ c ∷ []

unfoldable pub line_fields : Line → List ℕ
line_fields l = l.kind ∷ l.value ∷ []

-- the bytes of several things, one behind the other
unfoldable pub joined : {A : Type 0} → (A → List ℕ) → List A → List ℕ
joined bytes [] = []
joined bytes (a ∷ l) = bytes a ++ joined bytes l

unfoldable pub footprint_bytes : List Line → List ℕ
footprint_bytes ls = 0x4A ∷ 0x46 ∷ length ls ∷ joined line_fields ls

unfoldable pub body_bytes : List Instruction → List ℕ
body_bytes is = 0x4A ∷ 0x42 ∷ length is ∷ joined instruction_fields is

unfoldable pub head_bytes : TaskList → List ℕ
head_bytes l = 0x4A ∷ 0x48 ∷ l.locations ∷ length l.footprints ∷ length l.bodies ∷ []

unfoldable pub encode : TaskList → List ℕ
encode l = head_bytes l ++ joined footprint_bytes l.footprints ++ joined body_bytes l.bodies

-- what a file that was read is written as. Request 101: "The writer still gives the marked records for it, so reading and
-- then writing gives back every accepted file but the empty one."
unfoldable pub marked : List ℕ → List ℕ
marked [] = 0x4A ∷ 0x48 ∷ 1 ∷ 0 ∷ 1 ∷ 0x4A ∷ 0x42 ∷ 0 ∷ []
marked (x ∷ b) = x ∷ b
