-- How many numbers below n pass. Assumes nothing.
use Prim.Native.Nat.{ℕ, zero, suc, ◌+◌, ◌-◌, ◌≤◌, ◌<◌}
use mathlib.Core.Path.{◌≡◌, refl, sym, ap, ◌∙◌}
use mathlib.Core.Bool.{Bool, true, false, cond, ◌||◌}
use native.Mathlib.Omega.{arith}
use native.Mathlib.Decide.{ℕ_discrete}
use lib.Dec.{ltb, eqb}
use borrow.Author.Tests.{ltb-true, lt-ltb, eqb-true, eq-eqb}
use Rattle.bill_shares.specs.Shares.{count_below}

pub count_next : (p : ℕ → Bool) (n : ℕ) → count_below p (suc n) ≡ count_below p n + cond (p n) 1 0
unfolding count_below
count_next p n = refl

pub count_empty : (p : ℕ → Bool) → count_below p 0 ≡ 0
unfolding count_below
count_empty p = refl

-- one number more, which passes or not
count_yes : (p : ℕ → Bool) (n : ℕ) → p n ≡ true → count_below p (suc n) ≡ suc (count_below p n)
count_yes p n q = count_next p n ∙ ap (λ b. count_below p n + cond b 1 0) q ∙ omega arith

count_no : (p : ℕ → Bool) (n : ℕ) → p n ≡ false → count_below p (suc n) ≡ count_below p n
count_no p n q = count_next p n ∙ ap (λ b. count_below p n + cond b 1 0) q ∙ omega arith

one_most : (a b : Bool) → (a ≡ true → b ≡ true) → cond a 1 0 ≤ cond b 1 0
one_most true b h = rw (h refl) (omega arith)
one_most false true h = omega arith
one_most false false h = omega arith

pub count_mono : (p q : ℕ → Bool) (n : ℕ) → ((k : ℕ) → k < n → p k ≡ true → q k ≡ true) → count_below p n ≤ count_below q n
count_mono p q zero h = omega (arith, count_empty p)
count_mono p q (suc n) h =
    omega (
      arith,
      count_next p n,
      count_next q n,
      one_most (p n) (q n) (h n (omega arith)),
      count_mono p q n (λ k l. h k (omega arith)),
    )

-- one passes the second test and not the first
pub count_less :
    (p q : ℕ → Bool) (n y : ℕ) → ((k : ℕ) → k < n → p k ≡ true → q k ≡ true) → y < n → p y ≡ false → q y ≡ true
    → count_below p n < count_below q n
count_less p q zero y h l a b = let z : ⊥ = omega arith in absurd z
count_less p q (suc n) y h l a b = sort (ℕ_discrete y n) (count_less p q n y (λ k m. h k (omega arith)))
  where
    sort :
        Dec (y ≡ n) → (y < n → p y ≡ false → q y ≡ true → count_below p n < count_below q n)
        → count_below p (suc n) < count_below q (suc n)
    sort (yes e) ih =
        omega (
          arith,
          count_no p n (ap p (sym e) ∙ a),
          count_yes q n (ap q (sym e) ∙ b),
          count_mono p q n (λ k m. h k (omega arith)),
        )
    sort (no e) ih =
        omega (arith, count_next p n, count_next q n, one_most (p n) (q n) (h n (omega arith)), ih (omega arith) a b)

pub count_all : (p : ℕ → Bool) (n : ℕ) → ((k : ℕ) → k < n → p k ≡ true) → count_below p n ≡ n
count_all p zero h = count_empty p
count_all p (suc n) h = count_yes p n (h n (omega arith)) ∙ ap suc (count_all p n (λ k l. h k (omega arith)))

pub count_none : (p : ℕ → Bool) (n : ℕ) → ((k : ℕ) → k < n → p k ≡ true → ⊥) → count_below p n ≡ 0
count_none p zero h = count_empty p
count_none p (suc n) h = sort (p n) refl (count_none p n (λ k l. h k (omega arith)))
  where
    sort : (b : Bool) → p n ≡ b → count_below p n ≡ 0 → count_below p (suc n) ≡ 0
    sort true q ih = absurd (h n (omega arith) q)
    sort false q ih = count_no p n q ∙ ih

pub count_most : (p : ℕ → Bool) (n : ℕ) → count_below p n ≤ n
count_most p n = omega (arith, count_mono p (λ _. true) n (λ k l q. refl), count_all (λ _. true) n (λ k l. refl))

-- at most one passes where all that pass are one
count_single :
    (p : ℕ → Bool) (n : ℕ) → ((i j : ℕ) → i < n → j < n → p i ≡ true → p j ≡ true → i ≡ j) → count_below p n ≤ 1
count_single p zero h = omega (arith, count_empty p)
count_single p (suc n) h = sort (p n) refl (count_single p n (λ i j a b. h i j (omega arith) (omega arith)))
  where
    sort : (b : Bool) → p n ≡ b → count_below p n ≤ 1 → count_below p (suc n) ≤ 1
    sort true q ih =
        let none = count_none p n (λ k l e. let z = h k n (omega arith) (omega arith) e q in omega (arith, z)) in
        omega (arith, count_yes p n q, none)
    sort false q ih = omega (arith, count_no p n q)

-- those that pass one of two tests
count_either : (p q : ℕ → Bool) (n : ℕ) → count_below (λ i. p i || q i) n ≤ count_below p n + count_below q n
count_either p q zero = omega (arith, count_empty (λ i. p i || q i))
count_either p q (suc n) =
    omega (
      arith,
      count_next (λ i. p i || q i) n,
      count_next p n,
      count_next q n,
      either (p n) (q n),
      count_either p q n,
    )
  where
    either : (a b : Bool) → cond (a || b) 1 0 ≤ cond a 1 0 + cond b 1 0
    either true b = omega arith
    either false b = omega arith

-- Different numbers below n, one for each place below n: just k of them are below k.
module _ (f : ℕ → ℕ) (n : ℕ) (low : (i : ℕ) → i < n → f i < n) (apart : (i j : ℕ) → i < n → j < n → f i ≡ f j → i ≡ j) where
  abbrev under : ℕ → ℕ
  under k = count_below (λ i. ltb (f i) k) n

  under_next : (k : ℕ) → under (suc k) ≤ suc (under k)
  under_next k =
      let most = count_mono (λ i. ltb (f i) (suc k)) (λ i. ltb (f i) k || eqb (f i) k) n (λ i l q. sort i (ltb-true (f i) (suc k) q)) in
      let split = count_either (λ i. ltb (f i) k) (λ i. eqb (f i) k) n in
      let single =
      count_single (λ i. eqb (f i) k) n
      (λ i j a b p q. apart i j a b (eqb-true (f i) k p ∙ sym (eqb-true (f j) k q))) in
      omega (arith, most, split, single)
    where
      any : (b : Bool) → (b || true) ≡ true
      any true = refl
      any false = refl

      sort : (i : ℕ) → f i < suc k → (ltb (f i) k || eqb (f i) k) ≡ true
      sort i h = look (ℕ_discrete (f i) k)
        where
          look : Dec (f i ≡ k) → (ltb (f i) k || eqb (f i) k) ≡ true
          look (yes e) = ap (λ b. ltb (f i) k || b) (eq-eqb (f i) k e) ∙ any (ltb (f i) k)
          look (no e) = ap (λ b. b || eqb (f i) k) (lt-ltb (f i) k (omega arith))

  under_more : (k d : ℕ) → under (d + k) ≤ d + under k
  under_more k zero = let q : 0 + k ≡ k = omega arith in rw q (omega arith)
  under_more k (suc d) =
      let q : suc d + k ≡ suc (d + k) = omega arith in
      rw q (omega (arith, under_next (d + k), under_more k d))

  pub just_so_many : (k : ℕ) → k ≤ n → under k ≡ k
  just_so_many k h =
      let none : under 0 ≡ 0 = count_none (λ i. ltb (f i) 0) n (λ i l q. let z = ltb-true (f i) 0 q in omega arith) in
      let all : under n ≡ n = count_all (λ i. ltb (f i) n) n (λ i l. lt-ltb (f i) n (low i l)) in
      let a : k + 0 ≡ k = omega arith in
      let b : (d : ℕ) × (d + k ≡ n) = (n - k, omega arith) in
      let up : under (k + 0) ≤ k + under 0 = under_more 0 k in
      let down : under (b.0 + k) ≤ b.0 + under k = under_more k b.0 in
      let x : under (k + 0) ≡ under k = ap under a in
      let y : under (b.0 + k) ≡ under n = ap under b.1 in
      omega (arith, none, all, up, down, x, y, b.1)
