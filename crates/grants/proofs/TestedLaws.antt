-- Laws of what the children of one step are given: each by its registers, and all tested in turn. Assumes nothing.
use Prim.Native.Nat.{ℕ, zero, suc, ◌+◌, ◌-◌, ◌≤◌, ◌<◌}
use mathlib.Core.Path.{◌≡◌, refl, sym, ap, ◌∙◌}
use mathlib.Core.List.{List}
use native.Mathlib.Omega.{arith}
use native.Mathlib.Numerals.{add-one}
use lib.ListN.{set}
use Rattle.semantics.specs.Run.{no_modes}
use Rattle.semantics.specs.Footprint.{Grant, denied, granted}
use Rattle.grants.specs.Grants.{child_registers, unless_faulted, grants_from}

-- the registers of child i
pub registers_first : (i : ℕ) (rs : List ℕ) → i ≡ 0 → rs ≡ child_registers i rs
unfolding child_registers
registers_first i rs q = ap (λ k. child_registers k rs) (sym q)

pub registers_later : (i : ℕ) (rs : List ℕ) → (i ≡ 0 → ⊥) → set rs 0 i ≡ child_registers i rs
unfolding child_registers
registers_later zero rs h = absurd (h refl)
registers_later (suc i) rs h = refl

-- for the registers of a child
pub ruleset own_numbers = (registers_first, registers_later)

one_less : (k i : ℕ) → i < k → k - i ≡ suc (k - suc i)
one_less k i h = omega arith

-- The children are tested in turn.
module _ (f : ℕ → Grant) (k : ℕ) where
  -- those from i on are left, after one that was given this
  pub Tested : ℕ → Grant → Type 0
  Tested i before = grants_from f 0 k (granted no_modes) ≡ grants_from f i (k - i) before

  pub tested_none : Tested 0 (granted no_modes)
  unfolding Tested
  tested_none = let q : k ≡ k - 0 = omega arith in ap (λ m. grants_from f 0 m (granted no_modes)) q

  module _ (i : ℕ) (before : Grant) (h : i < k) (e : Tested i before) where
    opened : (g : Grant) → g ≡ f i → grants_from f 0 k (granted no_modes) ≡ unless_faulted g (grants_from f (suc i) (k - suc i) g)
    unfolding Tested grants_from
    opened g given =
        e ∙ ap (λ m. grants_from f i m before) (one_less k i h)
        ∙ ap (λ a. unless_faulted a (grants_from f (suc i) (k - suc i) a)) (sym given)

    pub tested_more : (modes : List ℕ) → granted modes ≡ f i → Tested (i + 1) (granted modes)
    unfolding Tested unless_faulted
    tested_more modes given = rw (add-one i) (opened (granted modes) given)

    pub tested_denied : (j : ℕ) → denied j ≡ f i → denied j ≡ grants_from f 0 k (granted no_modes)
    unfolding unless_faulted
    tested_denied j given = sym (opened (denied j) given)

  pub tested_all : (i : ℕ) (last : Grant) → k ≤ i → Tested i last → last ≡ grants_from f 0 k (granted no_modes)
  unfolding Tested grants_from
  tested_all i last h e = let q : k - i ≡ 0 = omega arith in sym (e ∙ ap (λ m. grants_from f i m last) q)

-- for what the children are given
pub ruleset children_granted = (tested_none, tested_more, tested_denied, tested_all)
