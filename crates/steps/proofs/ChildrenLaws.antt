-- The records of the tasks made, written the last first. Assumes nothing.
use Prim.Native.Nat.{ℕ, zero, suc, ◌+◌, ◌-◌, ◌*◌, ◌≤◌, ◌<◌}
use mathlib.Core.Path.{◌≡◌, refl, ap, ◌∙◌}
use mathlib.Core.List.{List}
use native.Mathlib.Omega.{arith}
use native.Mathlib.Numerals.{sub-one}
use lib.ListN.{set}
use Rattle.semantics.specs.declared.Record.{Record}
use Rattle.records.specs.Records.{child_record}
use Rattle.steps.specs.Stepping.{with_children}

-- The records of the first i children are still to be written.
pub record ChildrenLeft (child apart : ℕ) (made : Record) (children : ℕ) (from : List Record) (i : ℕ) (rs : List Record) : Type 0 where
  pub within : i ≤ children
  pub same : with_children child apart made i rs ≡ with_children child apart made children from

module _ (child apart : ℕ) (made : Record) (children : ℕ) (from : List Record) where
  pub children_all : ChildrenLeft child apart made children from children from
  children_all = record { within = omega arith; same = refl }

  one_written :
      (i : ℕ) (rs : List Record) → 0 < i
      → with_children child apart made (i - 1) (set rs (child + (i - 1) * apart) (child_record (i - 1) made))
      ≡ with_children child apart made i rs
  unfolding with_children
  one_written zero rs h = let z : ⊥ = omega arith in absurd z
  one_written (suc i) rs h =
      ap (λ k. with_children child apart made k (set rs (child + k * apart) (child_record k made))) (sub-one (suc i))

  pub child_written :
      (i : ℕ) (rs : List Record) → 0 < i → ChildrenLeft child apart made children from i rs → (t : Record) → t ≡ child_record (i - 1) made
      → ChildrenLeft child apart made children from (i - 1) (set rs (child + (i - 1) * apart) t)
  child_written i rs h left t q =
      record {
        within = omega (arith, left.within);
        same =
            ap (λ x. with_children child apart made (i - 1) (set rs (child + (i - 1) * apart) x)) q
            ∙ one_written i rs h ∙ left.same;
      }

  pub children_written :
      (i : ℕ) (rs : List Record) → i ≤ 0 → ChildrenLeft child apart made children from i rs
      → rs ≡ with_children child apart made children from
  unfolding with_children
  children_written zero rs h left = left.same
  children_written (suc i) rs h left = let z : ⊥ = omega (arith, h) in absurd z
