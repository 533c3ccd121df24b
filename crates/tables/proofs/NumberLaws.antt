-- Laws of a child's number: the sum of what the instructions ahead add, and the model's number where it is small enough.
-- Assumes nothing.
use Prim.Native.Nat.{ℕ, suc, ◌+◌, ◌≤◌, ◌<◌}
use mathlib.Core.Path.{◌≡◌, refl, sym, ap, ◌∙◌, fun_ext}
use mathlib.Core.List.{List}
use native.Mathlib.Omega.{arith}
use native.Mathlib.Numerals.{add-one}
use lib.ListN.{length, take, drop, get_or, drop_of_length-le}
use lib.Seq.{drop-cons}
use Rattle.tasklist.specs.declared.Instruction.{Instruction}
use Rattle.tasklist.specs.declared.Tables.{Tables}
use Rattle.tasklist.specs.TaskList.{body_of, total, adds, task_count, blank_instruction}
use Rattle.tasklist.specs.Tables.{list_of, capped, Holds}
use Rattle.tasklist.proofs.CountLaws.{total_capped}
use Rattle.semantics.specs.Run.{Task, Context}
use Rattle.semantics.specs.Plan.{child_number}
use Rattle.std.specs.Prelude.{min}
use Rattle.std.proofs.lemmas.List.{take_min}
use Rattle.tables.specs.Numbers.{number_by}

-- n is the number with the first i of the instructions ahead counted
module _ (t : Tables) (task : ℕ) (ahead : List Instruction) where
  counted : Instruction → ℕ
  counted = adds (λ a. get_or t.counts a 1)

  pub Counted : ℕ → ℕ → Type 0
  Counted n i = n + total counted (drop i ahead) ≡ task + 1 + total counted ahead

  pub counted_none : Counted (task + 1) 0
  unfolding Counted
  counted_none = refl

  pub counted_more :
      (n i v : ℕ) → i < length ahead → v ≡ adds (λ a. get_or t.counts a 1) (get_or ahead i blank_instruction)
      → Counted n i → Counted (n + v) (i + 1)
  unfolding Counted counted total
  counted_more n i v h w e =
      let open_up : total counted (drop i ahead) ≡ v + total counted (drop (suc i) ahead) =
      ap (total counted) (drop-cons ahead i blank_instruction h) ∙ ap (λ m. m + total counted (drop (suc i) ahead)) (sym w) in
      rw (add-one i) (omega (arith, open_up, e))

  pub counted_all :
      (body pc : ℕ) → ahead ≡ take (min pc (length (body_of (list_of t) body))) (body_of (list_of t) body)
      → (n i : ℕ) → length ahead ≤ i → Counted n i → n ≡ number_by t task body pc
  unfolding Counted counted total number_by
  counted_all body pc a n i h e =
      let none_left : total counted (drop i ahead) ≡ 0 = ap (total counted) (drop_of_length-le ahead h) in
      let all : n ≡ task + 1 + total counted ahead = omega (arith, none_left, e) in
      all ∙ ap (λ l. task + 1 + total counted l) (a ∙ take_min pc (body_of (list_of t) body))

-- for the sum of what the instructions ahead add
pub ruleset counts_ahead = (counted_none, counted_more, counted_all)

-- the model's number, where it is a task's
pub number_holds : (c : Context) (tables : Tables) → Holds tables c.list → (n : ℕ) (t : Task) → child_number c n t < 128
    → number_by tables n t.body t.pc ≡ child_number c n t
unfolding number_by child_number
number_holds c tables holds n t h =
    let same : ◌≡◌ {A = ℕ → ℕ} (λ a. get_or tables.counts a 1) (λ a. capped (task_count c.list a)) = fun_ext holds.counts in
    let ahead : List Instruction = take t.pc (body_of c.list t.body) in
    let sum : total (adds (λ a. capped (task_count c.list a))) ahead ≡ total (adds (task_count c.list)) ahead =
    total_capped (task_count c.list) ahead (omega arith) in
    ap (λ l. n + 1 + total (adds (λ a. get_or tables.counts a 1)) (take t.pc (body_of l t.body))) holds.list ∙
    ap (λ f. n + 1 + total (adds f) ahead) same ∙
    ap (λ m. n + 1 + m) sum
