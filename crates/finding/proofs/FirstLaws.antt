-- Laws of a search from 0 on: what is left of it after the first i numbers.
-- Assumes nothing.
use Prim.Native.Nat.{ℕ, zero, suc, ◌+◌, ◌-◌, ◌≤◌, ◌<◌}
use mathlib.Core.Path.{◌≡◌, refl, sym, ap, subst, ◌∙◌}
use mathlib.Core.Bool.{Bool, true, false, cond}
use mathlib.Core.Logic.{◌⊎◌, inl, inr}
use native.Mathlib.Omega.{arith}
use native.Mathlib.Numerals.{add-one}
use native.Mathlib.Nat.{add-zero}
use Prim.Native.Nat.{zero-le}
use Rattle.std.specs.Prelude.{Option, Some, None, MatchOption, unwrap_or}
use Rattle.finding.specs.Search.{first_from}

-- one number of the search
one_fails : (test : ℕ → Bool) (n k : ℕ) → test n ≡ false → first_from test n (suc k) ≡ first_from test (suc n) k
unfolding first_from
one_fails test n k e = ap (λ t. cond t n (first_from test (suc n) k)) e

one_passes : (test : ℕ → Bool) (n k : ℕ) → test n ≡ true → first_from test n (suc k) ≡ n
unfolding first_from
one_passes test n k e = ap (λ t. cond t n (first_from test (suc n) k)) e

none_left : (test : ℕ → Bool) (n k : ℕ) → k ≡ 0 → first_from test n k ≡ n
unfolding first_from
none_left test n zero e = refl
none_left test n (suc k) e = let z : ⊥ = omega arith in absurd z

-- the first i of so many numbers have failed
module _ (test : ℕ → Bool) (size : ℕ) where
  pub Failed : ℕ → Type 0
  Failed i = first_from test 0 size ≡ first_from test i (size - i)

  pub failed_none : Failed 0
  unfolding Failed
  failed_none = ap (first_from test 0) (omega arith)

  pub failed_next : (i : ℕ) → i < size → test i ≡ false → Failed i → Failed (i + 1)
  unfolding Failed
  failed_next i h e so_far =
      let left : size - i ≡ suc (size - suc i) = omega arith in
      rw (add-one i) (so_far ∙ ap (first_from test i) left ∙ one_fails test i (size - suc i) e)

  pub failed_passes : (i : ℕ) → i < size → test i ≡ true → Failed i → i ≡ first_from test 0 size
  unfolding Failed
  failed_passes i h e so_far =
      let left : size - i ≡ suc (size - suc i) = omega arith in
      sym (so_far ∙ ap (first_from test i) left ∙ one_passes test i (size - suc i) e)

  pub failed_all : (i : ℕ) → size ≤ i → Failed i → i ≡ first_from test 0 size
  unfolding Failed
  failed_all i h so_far = sym (so_far ∙ none_left test i (size - i) (omega arith))

  -- what `find` over the numbers below the size answers is the search: the first that passes, or the size
  failed_below : (i : ℕ) → i ≤ size → ((k : ℕ) → 0 ≤ k → k < i → test k ≡ false) → Failed i
  failed_below zero h fails = failed_none
  failed_below (suc i) h fails =
      subst Failed (add-one i) (failed_next i (omega arith) (fails i zero-le (omega arith)) (failed_below i (omega arith) (λ k a b. fails k a (omega arith))))

  pub first_found :
      (r : Option ℕ) → MatchOption r ((k : ℕ) → 0 ≤ k → k < size → test k ≡ false)
      (λ i. (0 ≤ i) × (i < size) × (test i ≡ true) × ((k : ℕ) → 0 ≤ k → k < i → test k ≡ false)) → unwrap_or r size ≡ first_from test 0 size
  first_found None h = failed_all size (omega arith) (failed_below size (omega arith) h)
  first_found (Some i) h = failed_passes i h.1 h.2 (failed_below i (omega (arith, h.1)) h.3)

-- what holds at the first number and behind each that fails holds where the search ends
pub first_keeps : (test : ℕ → Bool) (Q : ℕ → Type 0) → ((i : ℕ) → test i ≡ false → Q (suc i)) → (n k : ℕ) → Q n → Q (first_from test n k)
unfolding first_from
first_keeps test Q next n zero q = q
first_keeps test Q next n (suc k) q = keeps_look test Q n k (test n) refl q (λ e. first_keeps test Q next (suc n) k (next n e))
  where
    keeps_look : (test : ℕ → Bool) (Q : ℕ → Type 0) (n k : ℕ) (b : Bool) → test n ≡ b → Q n → (test n ≡ false → Q (first_from test (suc n) k))
        → Q (cond b n (first_from test (suc n) k))
    keeps_look test Q n k true e q later = q
    keeps_look test Q n k false e q later = later e

-- where some number passes, the search ends at one that does
pub record Passes (test : ℕ → Bool) (n k : ℕ) : Type 0 where
  pub passes : test (first_from test n k) ≡ true
  pub inside : first_from test n k < n + k

passes_now : (test : ℕ → Bool) (n k : ℕ) → test n ≡ true → Passes test n (suc k)
passes_now test n k e =
    let here = one_passes test n k e in
    record { passes = ap test here ∙ e; inside = omega (arith, here) }

passes_later : (test : ℕ → Bool) (n k : ℕ) → test n ≡ false → Passes test (suc n) k → Passes test n (suc k)
passes_later test n k e p =
    let further = one_fails test n k e in
    record { passes = ap test further ∙ p.passes; inside = omega (arith, further, p.inside) }

passes_either : (test : ℕ → Bool) (n k : ℕ) (b : Bool) → test n ≡ b → Passes test (suc n) k → Passes test n (suc k)
passes_either test n k true e p = passes_now test n k e
passes_either test n k false e p = passes_later test n k e p

pub first_passes : (test : ℕ → Bool) (n k m : ℕ) → m < k → test (n + m) ≡ true → Passes test n k
first_passes test n zero m h e = let z : ⊥ = omega arith in absurd z
first_passes test n (suc k) zero h e = passes_now test n k (ap test (sym (add-zero n)) ∙ e)
first_passes test n (suc k) (suc m) h e =
    let shifted : suc n + m ≡ n + suc m = omega arith in
    passes_either test n k (test n) refl (first_passes test (suc n) k m (omega arith) (ap test shifted ∙ e))

-- the search ends at a number that passes, or behind all
pub first_ends : (test : ℕ → Bool) (n k : ℕ) → (test (first_from test n k) ≡ true) ⊎ (first_from test n k ≡ n + k)
unfolding first_from
first_ends test n zero = inr (sym (add-zero n))
first_ends test n (suc k) = ends_look test n k (test n) refl (first_ends test (suc n) k)
  where
    ends_look : (test : ℕ → Bool) (n k : ℕ) (b : Bool) → test n ≡ b → (test (first_from test (suc n) k) ≡ true) ⊎ (first_from test (suc n) k ≡ suc n + k)
        → (test (cond b n (first_from test (suc n) k)) ≡ true) ⊎ (cond b n (first_from test (suc n) k) ≡ n + suc k)
    ends_look test n k true e later = inl e
    ends_look test n k false e (inl passes) = inl passes
    ends_look test n k false e (inr all) = inr (omega (arith, all))

-- every number ahead of it fails
pub first_before : (test : ℕ → Bool) (n k m : ℕ) → n + m < first_from test n k → test (n + m) ≡ false
unfolding first_from
first_before test n zero m h = let z : ⊥ = omega arith in absurd z
first_before test n (suc k) m h = before_look test n k m (test n) refl h (first_before test (suc n) k)
  where
    before_look : (test : ℕ → Bool) (n k m : ℕ) (b : Bool) → test n ≡ b → n + m < cond b n (first_from test (suc n) k)
        → ((i : ℕ) → suc n + i < first_from test (suc n) k → test (suc n + i) ≡ false) → test (n + m) ≡ false
    before_look test n k m true e h later = let z : ⊥ = omega arith in absurd z
    before_look test n k zero false e h later = ap test (add-zero n) ∙ e
    before_look test n k (suc m) false e h later =
        let shifted : n + suc m ≡ suc n + m = omega arith in
        ap test shifted ∙ later m (omega (arith, h, shifted))
