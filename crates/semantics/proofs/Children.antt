-- Laws of the children that a spawn or a fan makes: what holds of each is shown for one child. Assumes nothing.
use Prim.Native.Nat.{ℕ, zero, suc, ◌+◌, ◌<◌, ◌≤◌}
use mathlib.Core.Path.{◌≡◌, refl, sym, ap, subst}
use mathlib.Core.List.{List, [], ◌∷◌}
use mathlib.Core.Bool.{true, ◌&&◌}
use mathlib.Core.Logic.{inl, inr}
use native.Mathlib.Omega.{arith}
use lib.ListN.{length}
use lib.Dec.{leb}
use borrow.Author.Tests.{leb-true}
use Rattle.tasklist.specs.declared.Instruction.TheVariants.{Fan}
use Rattle.tasklist.specs.declared.Scope.{Scope}
use Rattle.tasklist.specs.declared.Line.{Line}
use Rattle.tasklist.specs.Decode.{spawn_ok, instruction_ok}
use Rattle.semantics.specs.Run.{Task}
use Rattle.semantics.specs.Effect.{Numbered, numbered_from, child}
use Rattle.semantics.specs.Footprint.{Grant, denied, granted, child_modes, Children, none_made, all_made, with_first, children, first_register, fan_of}
use Rattle.semantics.specs.Sound.{In}
use Rattle.semantics.proofs.Order.{and_left, and_right}

-- F holds of the fault, or P of each of the k children
abbrev pub Made : (ℕ → Type 0) → (Task → Type 0) → ℕ → Children → Type 0
Made F P k (none_made f) = F f
Made F P k (all_made ts) = (length ts ≡ k) × ((x : Task) → In x ts → P x)

-- F holds of the fault, or P of the child of body s and these modes
abbrev pub MadeOne : (ℕ → Type 0) → (Task → Type 0) → ℕ → Task → Grant → Type 0
MadeOne F P s t (denied f) = F f
MadeOne F P s t (granted modes) = P (child s modes t)

module _ (F : ℕ → Type 0) (P : Task → Type 0) (s : ℕ) where
  first_made :
      (t : Task) (g : Grant) (k : ℕ) (others : Children) → MadeOne F P s t g → Made F P k others
      → Made F P (suc k) (with_first s t g others)
  unfolding with_first
  first_made t (denied f) k others one rest = one
  first_made t (granted modes) k (none_made f) one rest = rest
  first_made t (granted modes) k (all_made ts) one rest = (ap suc rest.0, each)
    where
      each : (x : Task) → In x (child s modes t ∷ ts) → P x
      each x (inl q) = subst P (sym q) one
      each x (inr i) = rest.1 x i

  pub children_made :
      (ls : List Line) (ts : List Task) → ((t : Task) → In t ts → MadeOne F P s t (child_modes t ls))
      → Made F P (length ts) (children s ls ts)
  unfolding children
  children_made ls [] h = (refl, λ x i. absurd i)
  children_made ls (t ∷ ts) h =
      first_made t (child_modes t ls) (length ts) (children s ls ts) (h t (inl refl))
      (children_made ls ts (λ x i. h x (inr i)))

-- the spawner as its one child sees it
pub alone : (t x : Task) → In x (t ∷ []) → x ≡ t
alone t x (inl q) = q
alone t x (inr i) = absurd i

-- what the list's tests say of a fan
pub fan_fits :
    (at : Scope) (s f k : ℕ) → instruction_ok at (Fan s f k) ≡ true → (spawn_ok at s f ≡ true) × (k ≤ 16)
unfolding instruction_ok
fan_fits at s f k q = (
  and_left (spawn_ok at s f) (leb 1 k) (and_left (spawn_ok at s f && leb 1 k) (leb k 16) q),
  leb-true k 16 (and_right (spawn_ok at s f && leb 1 k) (leb k 16) q),
)

-- the spawner as the children of a fan see it
pub fan_length : (i k : ℕ) (t : Task) → length (fan_of i k t) ≡ k
unfolding fan_of
fan_length i zero t = refl
fan_length i (suc k) t = ap suc (fan_length (suc i) k t)

pub fan_in : (i k : ℕ) (t x : Task) → In x (fan_of i k t) → (j : ℕ) × (x ≡ first_register j t) × (j < i + k)
unfolding fan_of
fan_in i zero t x h = absurd h
fan_in i (suc k) t x (inl q) = (i, q, omega arith)
fan_in i (suc k) t x (inr h) = let r = fan_in (suc i) k t x h in (r.0, r.1, omega (arith, r.2))

-- the tasks that were numbered
pub numbered_in : (first apart : ℕ) (ts : List Task) (x : Numbered) → In x (numbered_from first apart ts) → In x.task ts
unfolding numbered_from
numbered_in first apart [] x i = absurd i
numbered_in first apart (t ∷ ts) x (inl q) = inl (ap (λ y. y.task) q)
numbered_in first apart (t ∷ ts) x (inr i) = inr (numbered_in (first + apart) apart ts x i)
