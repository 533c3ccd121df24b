-- Sums over the table of tasks, of ranks and of weights. Assumes nothing.
use Prim.Native.Nat.{ℕ, zero, suc, ◌+◌, ◌*◌, ◌<◌, ◌≤◌}
use mathlib.Core.Path.{◌≡◌, refl, sym, ap, subst, ◌∙◌}
use mathlib.Core.List.{List, [], ◌∷◌}
use mathlib.Core.Logic.{inl, inr}
use native.Mathlib.Omega.{arith}
use lib.ListN.{length, get_or, set}
use Rattle.tasklist.specs.TaskList.{total}
use Rattle.semantics.specs.Run.{Task, never}
use Rattle.semantics.specs.Effect.{Numbered}
use Rattle.semantics.specs.Call.{written}
use Rattle.semantics.specs.Sound.{In, Distinct, rank, weighs}
use Rattle.semantics.proofs.Apply.{numbers, length_written, written_other}

-- sums of ranks
pub total_set :
    (f : Task → ℕ) (ts : List Task) (i : ℕ) (t d : Task) → i < length ts
    → total f (set ts i t) + f (get_or ts i d) ≡ total f ts + f t
unfolding total
total_set f [] i t d h = let bad : ⊥ = omega arith in absurd bad
total_set f (x ∷ ts) zero t d h = omega arith
total_set f (x ∷ ts) (suc i) t d h = let k = total_set f ts i t d (omega arith) in omega arith

pub total_most :
    (f : Task → ℕ) (ts : List Task) (m : ℕ) → ((i : ℕ) → f (get_or ts i never) ≤ m) → total f ts ≤ m * length ts
unfolding total
total_most f [] m h = omega arith
total_most f (x ∷ ts) m h = let k = total_most f ts m (λ i. h (suc i)) in let z = h 0 in omega arith

pub total_cons : (f : Task → ℕ) (t : Task) (ts : List Task) → total f (t ∷ ts) ≡ f t + total f ts
unfolding total
total_cons f t ts = refl

pub never_rank : rank never ≡ 0
unfolding rank never
never_rank = refl

pub never_weighs : weighs never ≡ 0
unfolding never
never_weighs = refl

-- new tasks that count for nothing in the place of blank records
pub total_made :
    (f : Task → ℕ) → f never ≡ 0 → (xs : List Numbered) (ts : List Task) → Distinct (numbers xs)
    → ((x : Numbered) → In x xs → (x.number < length ts) × (get_or ts x.number never ≡ never) × (f x.task ≡ 0))
    → total f (written xs ts) ≡ total f ts
total_made f none [] ts d h = unfold written in refl
total_made f none (x ∷ xs) ts d h =
    unchanged (total_made f none xs ts d.1 (λ y i. h y (inr i)))
  where
    was : f (get_or (written xs ts) x.number never) ≡ 0
    was = ap f (written_other xs ts x.number d.0 ∙ (h x (inl refl)).1) ∙ none

    sum :
        total f (set (written xs ts) x.number x.task) + f (get_or (written xs ts) x.number never)
        ≡ total f (written xs ts) + f x.task
    sum = total_set f (written xs ts) x.number x.task never (subst (λ k. x.number < k) (sym (length_written xs ts)) (h x (inl refl)).0)

    unchanged : total f (written xs ts) ≡ total f ts → total f (written (x ∷ xs) ts) ≡ total f ts
    unchanged ih = unfold written in omega (arith, ih, was, sum, (h x (inl refl)).2)
