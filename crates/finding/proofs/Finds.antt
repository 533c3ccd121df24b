-- Every number of an accepted list is found: below count(0), the task told under a number has that number.
-- Assumes nothing.
use Prim.Native.Nat.{ℕ, zero, suc, ◌+◌, ◌-◌, ◌*◌, ◌≤◌, ◌<◌}
use mathlib.Core.Path.{◌≡◌, refl, sym, ap, ◌∙◌, fun_ext, subst}
use mathlib.Core.List.{List, [], ◌∷◌}
use mathlib.Core.Bool.{Bool, true, false, cond}
use native.Mathlib.Omega.{arith}
use native.Mathlib.Nat.{le_trans, le_of_eq, one-mul, mul-le-mul_right}
use lib.Dec.{ltb}
use lib.ListN.{length, take, get_or, get_or-eq_default}
use lib.Seq.{take-length}
use borrow.Author.Tests.{lt-ltb, ltb-true, ltb-false}
use Rattle.tasklist.specs.declared.Instruction.{Instruction}
use Rattle.tasklist.specs.declared.Instruction.TheVariants.{Const, Add, Sub, Less, Load, Store, Skip, Spawn, Wait, Fan, Sum, Mul, Div}
use Rattle.tasklist.specs.declared.Tables.{Tables}
use Rattle.tasklist.specs.TaskList.{TaskList, body_of, instruction_of, blank_instruction, total, adds, count_body, task_count}
use Rattle.tasklist.specs.Tables.{list_of, capped, Holds}
use Rattle.tasklist.specs.Accepted.{Accepted}
use Rattle.tasklist.proofs.Guarantees.{spawn_names, fan_names}
use Rattle.tasklist.proofs.CountLaws.{total_capped}
use Rattle.finding.specs.declared.Job.{Job}
use Rattle.finding.specs.Search.{first_from}
use Rattle.finding.specs.Jobs.{first_job, number_at, fanned, made, place_of, holder, down, numbered}
use Rattle.finding.proofs.FirstLaws.{first_keeps, Passes, first_passes}
use Rattle.finding.proofs.JobLaws.{total_more, child_block}

-- sums of parts
total_part : (f : Instruction → ℕ) (xs : List Instruction) (i : ℕ) → total f (take i xs) ≤ total f xs
unfolding total
total_part f [] zero = omega arith
total_part f [] (suc i) = omega arith
total_part f (x ∷ xs) zero = omega arith
total_part f (x ∷ xs) (suc i) = omega (arith, total_part f xs i)

module _ (t : Tables) (l : TaskList) (holds : Holds t l) (ok : Accepted l) (k : ℕ) where
  abbrev count : ℕ → ℕ
  count = task_count l

  -- the number of a child by the list's own counts
  plain : Job → ℕ → ℕ
  plain j i = j.number + 1 + total (adds count) (take i (body_of l j.body))

  -- k lies in the task's block, which lies below 128, and enough levels are left
  record Holding (levels : ℕ) (j : Job) : Type 0 where
    low : j.number ≤ k
    high : k < j.number + count j.body
    fits : j.number + count j.body ≤ 128
    near : 32 ≤ levels + j.body

  block : (j : Job) → j.number + count j.body ≡ plain j (length (body_of l j.body))
  unfolding plain count_body
  block j =
      let counted : count j.body ≡ suc (total (adds count) (body_of l j.body)) = ok.count_law j.body in
      let whole = ap (total (adds count)) (take-length (body_of l j.body)) in
      omega (arith, counted, whole)

  within : (j : Job) (i : ℕ) → plain j i ≤ j.number + count j.body
  unfolding plain
  within j i = omega (arith, block j, total_part (adds count) (body_of l j.body) i, ap (total (adds count)) (take-length (body_of l j.body)))

  same_number : (j : Job) (i : ℕ) → j.number + count j.body ≤ 128 → number_at t j i ≡ plain j i
  unfolding number_at plain
  same_number j i fits =
      let known : ◌≡◌ {A = ℕ → ℕ} (λ a. get_or t.counts a 1) (λ a. capped (count a)) = fun_ext holds.counts in
      let part : List Instruction = take i (body_of l j.body) in
      let small : total (adds count) part ≤ 129 = omega (arith, within j i, fits) in
      ap (λ m. j.number + 1 + total (adds (λ a. get_or t.counts a 1)) (take i (body_of m j.body))) holds.list ∙
      ap (λ f. j.number + 1 + total (adds f) part) known ∙
      ap (λ m. j.number + 1 + m) (total_capped count part small)

  plain_more : (j : Job) (i : ℕ) → i < length (body_of l j.body) → plain j (suc i) ≡ plain j i + adds count (instruction_of l j.body i)
  unfolding plain instruction_of
  plain_more j i h = omega (arith, total_more (adds count) (body_of l j.body) i blank_instruction h)

  some_task : (s : ℕ) → 0 < count s
  unfolding count_body
  some_task s = omega (arith, ok.count_law s)

  -- the child at the place whose block holds k
  child : (levels d : ℕ) (j : Job) (r : ℕ) (x : Instruction) → Holding (suc levels) j → r < length (body_of l j.body) → plain j r ≤ k → k < plain j (suc r)
      → instruction_of l j.body r ≡ x → plain j (suc r) ≡ plain j r + adds count x → Holding levels (made t j r (plain j r) k d x)
  unfolding made fanned adds
  child levels d j r (Const a v) h here low high q more = let z : ⊥ = omega arith in absurd z
  child levels d j r (Add a b c) h here low high q more = let z : ⊥ = omega arith in absurd z
  child levels d j r (Sub a b c) h here low high q more = let z : ⊥ = omega arith in absurd z
  child levels d j r (Less a b c) h here low high q more = let z : ⊥ = omega arith in absurd z
  child levels d j r (Load a b) h here low high q more = let z : ⊥ = omega arith in absurd z
  child levels d j r (Store a b) h here low high q more = let z : ⊥ = omega arith in absurd z
  child levels d j r (Skip a b) h here low high q more = let z : ⊥ = omega arith in absurd z
  child levels d j r (Wait a) h here low high q more = let z : ⊥ = omega arith in absurd z
  child levels d j r (Sum a b) h here low high q more = let z : ⊥ = omega arith in absurd z
  child levels d j r (Mul a b c) h here low high q more = let z : ⊥ = omega arith in absurd z
  child levels d j r (Div a b c) h here low high q more = let z : ⊥ = omega arith in absurd z
  child levels d j r (Spawn a b) h here low high q more =
      let names = spawn_names l ok j.body r here a b q in
      record {
        low = low;
        high = omega (arith, high, more);
        fits = omega (arith, more, within j (suc r), h.fits);
        near = omega (arith, names.above, h.near);
      }
  child levels d j r (Fan a b c) h here low high q more =
      let names = fan_names l ok j.body r here a b c q in
      let n : ℕ = plain j r in
      let inside : n + c * count a ≤ 128 = omega (arith, more, within j (suc r), h.fits) in
      let few : count a ≤ c * count a = le_trans (le_of_eq (sym (one-mul (count a)))) (mul-le-mul_right (count a) names.some_child) in
      let w : ℕ = get_or t.counts a 1 in
      let same : w ≡ count a = omega (arith, holds.counts a, few, inside) in
      let some : 0 < w = omega (arith, same, some_task a) in
      let p = child_block n k c w some low (omega (arith, high, more, ap (λ (m : ℕ). c * m) same)) in
      record {
        low = p.low;
        high = omega (arith, p.high, same);
        fits = omega (arith, p.fits, same, inside, ap (λ (m : ℕ). c * m) same);
        near = omega (arith, names.names.above, h.near);
      }

  plain_none : (j : Job) → plain j 0 ≡ j.number + 1
  unfolding plain total
  plain_none j = omega arith

  some_child : (j : Job) (size : ℕ) → j.number < k → k < plain j size → 0 < size
  some_child j zero above last = let z : ⊥ = omega (arith, plain_none j) in absurd z
  some_child j (suc n) above last = omega arith

  held : (levels d : ℕ) (j : Job) → Holding (suc levels) j → j.number < k → Holding levels (holder t j k d)
  unfolding holder place_of
  held levels d j h above =
      let size : ℕ = length (body_of (list_of t) j.body) in
      let same_size : size ≡ length (body_of l j.body) = ap (λ m. length (body_of m j.body)) holds.list in
      let last : k < plain j size = omega (arith, block j, h.high, ap (plain j) same_size) in
      let some : 0 < size = some_child j size above last in
      let test : ℕ → Bool = λ i. ltb k (number_at t j (suc i)) in
      let at_last : suc (0 + (size - 1)) ≡ size = omega (arith, some) in
      let passing : test (0 + (size - 1)) ≡ true = lt-ltb k (number_at t j (suc (0 + (size - 1))))
      (omega (arith, ap (number_at t j) at_last, same_number j size h.fits, last)) in
      let p : Passes test 0 size = first_passes test 0 size (size - 1) (omega (arith, some)) passing in
      let r : ℕ = first_from test 0 size in
      let first_low : number_at t j 0 ≤ k = omega (arith, same_number j 0 h.fits, plain_none j, above) in
      let low : number_at t j r ≤ k = first_keeps test (λ i. number_at t j i ≤ k) (λ i e. ltb-false k (number_at t j (suc i)) e) 0 size first_low in
      let high : k < number_at t j (suc r) = ltb-true k (number_at t j (suc r)) p.passes in
      let here : r < length (body_of l j.body) = omega (arith, p.inside, same_size) in
      let made_here : Holding levels (made t j r (plain j r) k d (instruction_of l j.body r)) =
      child levels d j r (instruction_of l j.body r) h here (omega (arith, low, same_number j r h.fits)) (omega (arith, high, same_number j (suc r) h.fits)) refl
      (plain_more j r here) in
      subst (Holding levels) (sym (ap (λ n. made t j r n k d (instruction_of (list_of t) j.body r)) (same_number j r h.fits) ∙
      ap (λ m. made t j r (plain j r) k d (instruction_of m j.body r)) holds.list)) made_here

  -- a body past the last has one task
  alone : (s : ℕ) → 32 ≤ s → count s ≡ 1
  unfolding count_body body_of total
  alone s far =
      let none : body_of l s ≡ [] = get_or-eq_default l.bodies [] (omega (arith, ok.most_bodies, far)) in
      ok.count_law s ∙ ap (count_body count) none

  down_finds : (levels d : ℕ) (j : Job) → Holding levels j → (down levels t k d j).number ≡ k
  unfolding down
  down_finds zero d j h = omega (arith, alone j.body (omega (arith, h.near)), h.low, h.high)
  down_finds (suc levels) d j h =
      down_look levels d j (ltb j.number k) refl h (λ above. down_finds levels (suc d) (holder t j k (suc d)) (held levels (suc d) j h above))
    where
      down_look : (levels d : ℕ) (j : Job) (b : Bool) → ltb j.number k ≡ b → Holding (suc levels) j
          → (j.number < k → (down levels t k (suc d) (holder t j k (suc d))).number ≡ k)
          → (cond b (down levels t k (suc d) (holder t j k (suc d))) j).number ≡ k
      down_look levels d j true e h below = below (ltb-true j.number k e)
      down_look levels d j false e h below = omega (arith, ltb-false j.number k e, h.low)

  -- "count(0)" tasks can be made: the task told under each number below it has that number
  pub numbered_finds : k < task_count l 0 → (numbered t k).number ≡ k
  unfolding numbered
  numbered_finds small =
      down_finds 32 0 first_job (record { low = omega arith; high = omega arith; fits = omega (arith, ok.most_tasks); near = omega arith })
