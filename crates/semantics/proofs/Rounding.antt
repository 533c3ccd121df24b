-- Request 108: "The rounding is one fact, shown for every divisor and used by both codes." A quotient is rounded to the nearest
-- whole number, halves upward, and to no other; then which quotients fault, and that what both codes compute on the way fits 64
-- bits. Assumes nothing.
use Prim.Native.Nat.{ℕ, ◌+◌, ◌-◌, ◌*◌, ◌/◌, ◌^◌, ◌<◌, ◌≤◌}
use mathlib.Core.Path.{◌≡◌, refl, sym, subst}
use mathlib.Core.Bool.{Bool, true, false, cond}
use native.Mathlib.Omega.{arith}
use native.Mathlib.Nat.{le_refl, suc-mul, mod-lt, div-add-mod', mul-le-mul_right}
use lib.Dec.{ltb, eqb}
use borrow.Author.Tests.{ltb-true, ltb-false, lt-ltb, le-ltb, eq-eqb, ne_eqb}
use Rattle.semantics.specs.Rounding.{rounded, distance, Nearest}
use Rattle.semantics.specs.Plan.{quotient_fault}

-- the exact value is at most a half below, and less than a half above
rounded_low : (n d : ℕ) → rounded n d * d ≤ n + d / 2
unfolding rounded
rounded_low n d = omega (arith, div-add-mod' (n + d / 2) d)

rounded_high : (n d : ℕ) → 0 < d → n + d / 2 < rounded n d * d + d
unfolding rounded
rounded_high n d h = omega (arith, div-add-mod' (n + d / 2) d, mod-lt (n + d / 2) h)

-- then any other number is as far at least
module _ (n d q : ℕ) (low : q * d ≤ n + d / 2) (high : n + d / 2 < q * d + d) where
  -- one below or less is not nearer
  lower : (p : ℕ) → p < q → distance n d q ≤ distance n d p
  lower p h =
      let apart : p * d + d ≤ q * d = subst (λ x. x ≤ q * d) (suc-mul p d) (mul-le-mul_right d h) in
      omega arith

  -- one above or more is farther
  higher : (p : ℕ) → q < p → distance n d q < distance n d p
  higher p h =
      let apart : q * d + d ≤ p * d = subst (λ x. x ≤ p * d) (suc-mul q d) (mul-le-mul_right d h) in
      omega arith

-- "shown for every divisor"
pub rounded_nearest : (n d : ℕ) → 0 < d → Nearest n d (rounded n d)
rounded_nearest n d h = record { nearest = nearest; upward = upward }
  where
    q : ℕ
    q = rounded n d

    low : q * d ≤ n + d / 2
    low = rounded_low n d

    high : n + d / 2 < q * d + d
    high = rounded_high n d h

    -- p is lower, the same or higher
    nearest : (p : ℕ) → distance n d q ≤ distance n d p
    nearest p = sort (ltb p q) refl (ltb q p) refl
      where
        sort : (b : Bool) → ltb p q ≡ b → (b' : Bool) → ltb q p ≡ b' → distance n d q ≤ distance n d p
        sort true e b' e' = lower n d q low high p (ltb-true p q e)
        sort false e true e' = let far = higher n d q low high p (ltb-true q p e') in omega arith
        sort false e false e' =
            let same : p ≡ q = omega (arith, ltb-false p q e, ltb-false q p e') in
            subst (λ x. distance n d q ≤ distance n d x) (sym same) (le_refl (distance n d q))

    upward : (p : ℕ) → distance n d p ≡ distance n d q → p ≤ q
    upward p e = sort (ltb q p) refl
      where
        sort : (b : Bool) → ltb q p ≡ b → p ≤ q
        sort true r = let far = higher n d q low high p (ltb-true q p r) in let z : ⊥ = omega arith in absurd z
        sort false r = ltb-false q p r

-- and no other number is
pub nearest_one : (n d p q : ℕ) → Nearest n d p → Nearest n d q → p ≡ q
nearest_one n d p q x y =
    let same : distance n d p ≡ distance n d q = omega (arith, x.nearest q, y.nearest p) in
    omega (arith, x.upward q (sym same), y.upward p same)

-- "fault 5, tested first .., is a zero Rc", whatever is divided
pub zero_faults : (n d : ℕ) → d ≡ 0 → quotient_fault n d ≡ 5
unfolding quotient_fault
zero_faults n d h = rw (eq-eqb d 0 h) refl

module _ (n d q : ℕ) (h : 0 < d) (near : Nearest n d q) where
  pub is_rounded : rounded n d ≡ q
  is_rounded = nearest_one n d (rounded n d) q (rounded_nearest n d h) near

  divides : eqb d 0 ≡ false
  divides = ne_eqb d 0 (λ z. omega arith)

  -- "Fault 4 is a result above 2^32 − 1"
  pub large_faults : 2 ^ 32 ≤ q → quotient_fault n d ≡ 4
  unfolding quotient_fault
  large_faults large = rw (divides, is_rounded, le-ltb q (2 ^ 32) large) refl

  pub small_passes : q < 2 ^ 32 → quotient_fault n d ≡ 0
  unfolding quotient_fault
  small_passes small = rw (divides, is_rounded, lt-ltb q (2 ^ 32) small) refl

-- no other fault, and a result of 32 bits where there is none
pub quotient_fault_most : (n d : ℕ) → quotient_fault n d ≤ 5
unfolding quotient_fault
quotient_fault_most n d = sort (eqb d 0) (ltb (rounded n d) (2 ^ 32))
  where
    sort : (b b' : Bool) → cond b 5 (cond b' 0 4) ≤ 5
    sort true b' = omega arith
    sort false true = omega arith
    sort false false = omega arith

pub quotient_small : (n d : ℕ) → quotient_fault n d ≡ 0 → rounded n d < 2 ^ 32
unfolding quotient_fault
quotient_small n d f = ltb-true (rounded n d) (2 ^ 32) (sort (eqb d 0) (ltb (rounded n d) (2 ^ 32)) f)
  where
    sort : (b b' : Bool) → ◌≡◌ {A = ℕ} (cond b 5 (cond b' 0 4)) 0 → b' ≡ true
    sort true b' e = let z : ⊥ = omega (arith, e) in absurd z
    sort false true e = refl
    sort false false e = let z : ⊥ = omega (arith, e) in absurd z

-- what both codes divide, half the divisor added, fits 64 bits
pub product_fits : (x y : ℕ) → x < 2 ^ 32 → y < 2 ^ 32 → x * y + 1000 / 2 < 2 ^ 64
product_fits x y hx hy =
    let below : x ≤ 2 ^ 32 - 1 = omega arith in
    let left : x * y ≤ (2 ^ 32 - 1) * y = mul-le-mul_right y below in
    omega arith

pub thousandfold_fits : (x y : ℕ) → x < 2 ^ 32 → y < 2 ^ 32 → 1000 * x + y / 2 < 2 ^ 64
thousandfold_fits x y hx hy = omega arith
