use Rattle.std.proofs.Common.{ℕ, ◌≡◌, ◌≤◌, List, length, take, suc}
use Rattle.tasklist.specs.declared.Instruction.{Instruction}
use Rattle.tasklist.specs.TaskList.{count_body}
use Rattle.tasklist.specs.Tables.{rows}
use Rattle.tasklist.proofs.CountLaws.{Summed, known_from, Known}
use Rattle.tasklist.proofs.counts.task_counts.Given as goal

abbrev pub bodies_of : ℕ → List ℕ → List Instruction → List (List Instruction)
bodies_of bodies sizes cells = rows 32 (take bodies sizes) cells

-- n is the capped sum of the first i of these instructions, with 1 for the body itself, by the counts of the bodies behind s
abbrev pub sum_of : List (List Instruction) → ℕ → List Instruction → ℕ → ℕ → Type 0
sum_of bodies s row n i = Summed (known_from bodies (suc s)) row (count_body (known_from bodies (suc s)) row) n i

abbrev pub invariant-loop-instruction : goal.invariant-loop-instruction
invariant-loop-instruction l =
    record {
      most : l.n ≤ 129;
      sum : sum_of (bodies_of l.bodies l.sizes l.cells) l.s l.instruction-items l.n l.instruction-index;
    }

abbrev pub invariant-loop-s : goal.invariant-loop-s
invariant-loop-s l = record { whole : length l.known ≡ 32; known : Known (bodies_of l.bodies l.sizes l.cells) l.s l.known }
