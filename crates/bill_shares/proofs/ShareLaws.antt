-- Sums, lists of values, quotients and remainders. Assumes nothing.
use Prim.Native.Nat.{ℕ, zero, suc, ◌+◌, ◌*◌, ◌/◌, ◌%◌, ◌≤◌, ◌<◌}
use mathlib.Core.Path.{◌≡◌, refl, sym, ap, ◌∙◌}
use mathlib.Core.List.{List, [], ◌∷◌, ◌++◌, map}
use mathlib.Core.Bool.{Bool, cond}
use native.Mathlib.Omega.{arith}
use native.Mathlib.Decide.{ℕ_discrete}
use native.Mathlib.Nat.{mul-add, mul-zero, mul_comm, div-zero, div-add-mod, le_of_mul-le-mul_left}
use lib.ListN.{length, get_or, length-map}
use lib.Seq.{ext_get_or}
use Rattle.std.specs.List.{sum, sum_by}
use Rattle.std.proofs.lemmas.List.Sums.{sum_by-cons, sum-map}
use Rattle.bill_shares.specs.Shares.{whole, floors, remainders, count_below, share_at, listed, shares}
use Rattle.bill_shares.proofs.Counting.{count_next, count_empty}

pub whole_append : (xs ys : List ℕ) → whole (xs ++ ys) ≡ whole xs + whole ys
unfolding whole
whole_append [] ys = omega arith
whole_append (x ∷ xs) ys = omega (arith, whole_append xs ys)

-- the library's word for it
pub whole_is_sum : (l : List ℕ) → whole l ≡ sum l
unfolding whole
whole_is_sum [] = refl
whole_is_sum (x ∷ l) = ap (λ n. x + n) (whole_is_sum l) ∙ sym (sum_by-cons (λ n. n) x l)

pub whole_of_map : {A : Type 0} (f : A → ℕ) (l : List A) → whole (map f l) ≡ sum_by f l
whole_of_map f l = whole_is_sum (map f l) ∙ sum-map f l

pub at_most_whole : (l : List ℕ) (i : ℕ) → get_or l i 0 ≤ whole l
unfolding whole
at_most_whole [] i = omega arith
at_most_whole (x ∷ l) zero = omega arith
at_most_whole (x ∷ l) (suc i) = omega (arith, at_most_whole l i)

-- the n values of f from one number on
pub length_listed : (f : ℕ → ℕ) (from n : ℕ) → length (listed f from n) ≡ n
unfolding listed
length_listed f from zero = refl
length_listed f from (suc n) = ap suc (length_listed f (suc from) n)

getD_listed : (f : ℕ → ℕ) (from n i : ℕ) → i < n → get_or (listed f from n) i 0 ≡ f (from + i)
unfolding listed
getD_listed f from zero i h = let z : ⊥ = omega arith in absurd z
getD_listed f from (suc n) zero h = let q : from ≡ from + 0 = omega arith in ap f q
getD_listed f from (suc n) (suc i) h =
    let q : suc from + i ≡ from + suc i = omega arith in
    getD_listed f (suc from) n i (omega arith) ∙ ap f q

pub listed_at : (f : ℕ → ℕ) (n i : ℕ) → i < n → get_or (listed f 0 n) i 0 ≡ f i
listed_at f n i h = let q : 0 + i ≡ i = omega arith in getD_listed f 0 n i h ∙ ap f q

listed_behind : (f : ℕ → ℕ) (from n : ℕ) → listed f from (suc n) ≡ listed f from n ++ (f (from + n) ∷ [])
unfolding listed
listed_behind f from zero = let q : from ≡ from + 0 = omega arith in ap (λ k. f k ∷ []) q
listed_behind f from (suc n) =
    let q : suc from + n ≡ from + suc n = omega arith in
    ap (λ l. f from ∷ l) (listed_behind f (suc from) n ∙ ap (λ k. listed f (suc from) n ++ (f k ∷ [])) q)

pub listed_next : (f : ℕ → ℕ) (n : ℕ) → listed f 0 (suc n) ≡ listed f 0 n ++ (f n ∷ [])
listed_next f n = let q : 0 + n ≡ n = omega arith in listed_behind f 0 n ∙ ap (λ k. listed f 0 n ++ (f k ∷ [])) q

-- a list is listed by its places
pub listed_items : (l : List ℕ) → listed (λ i. get_or l i 0) 0 (length l) ≡ l
listed_items l =
    let f : ℕ → ℕ = λ i. get_or l i 0 in
    let long = length_listed f 0 (length l) in
    ext_get_or 0 (listed f 0 (length l)) l long (λ i h. listed_at f (length l) i (omega (arith, long)))

pub whole_next : (f : ℕ → ℕ) (n : ℕ) → whole (listed f 0 (suc n)) ≡ whole (listed f 0 n) + f n
whole_next f n =
    ap whole (listed_next f n) ∙ whole_append (listed f 0 n) (f n ∷ []) ∙ unfold whole in omega arith

pub whole_empty : (f : ℕ → ℕ) → whole (listed f 0 0) ≡ 0
unfolding whole listed
whole_empty f = refl

-- a penny for each that passes
pub whole_pennies :
    (f : ℕ → ℕ) (p : ℕ → Bool) (n : ℕ)
    → whole (listed (λ i. f i + cond (p i) 1 0) 0 n) ≡ whole (listed f 0 n) + count_below p n
whole_pennies f p zero = omega (arith, whole_empty (λ i. f i + cond (p i) 1 0), whole_empty f, count_empty p)
whole_pennies f p (suc n) =
    omega (
      arith,
      whole_next (λ i. f i + cond (p i) 1 0) n,
      whole_next f n,
      count_next p n,
      whole_pennies f p n,
    )

-- quotients and remainders of all weights by one divisor
pub divided :
    (bill all : ℕ) (ws : List ℕ)
    → all * whole (map (λ w. bill * w / all) ws) + whole (map (λ w. bill * w % all) ws) ≡ bill * whole ws
unfolding whole
divided bill all [] = omega (arith, mul-zero all, mul-zero bill)
divided bill all (w ∷ ws) =
    let down = whole (map (λ w. bill * w / all) ws) in
    omega (
      arith,
      divided bill all ws,
      div-add-mod (bill * w) all,
      mul-add all (bill * w / all) down,
      mul-add bill w (whole ws),
    )

-- by 0
floors_of_none : (bill : ℕ) (ws : List ℕ) → whole (map (λ w. bill * w / 0) ws) ≡ 0
unfolding whole
floors_of_none bill [] = refl
floors_of_none bill (w ∷ ws) = omega (arith, div-zero (bill * w), floors_of_none bill ws)

-- shares rounded down are at most the bill
pub floors_most : (bill : ℕ) (ws : List ℕ) → whole (floors bill ws) ≤ bill
unfolding floors
floors_most bill ws = sort (ℕ_discrete (whole ws) 0)
  where
    sort : Dec (whole ws ≡ 0) → whole (map (λ w. bill * w / whole ws) ws) ≤ bill
    sort (yes q) = omega (arith, ap (λ a. whole (map (λ w. bill * w / a) ws)) q, floors_of_none bill ws)
    sort (no q) =
        le_of_mul-le-mul_left {k = whole ws}
        (omega (arith, divided bill (whole ws) ws, mul_comm bill (whole ws))) (omega arith)

pub floors_count : (bill : ℕ) (ws : List ℕ) → length (floors bill ws) ≡ length ws
unfolding floors
floors_count bill ws = length-map ws (λ w. bill * w / whole ws)

pub remainders_count : (bill : ℕ) (ws : List ℕ) → length (remainders bill ws) ≡ length ws
unfolding remainders
remainders_count bill ws = length-map ws (λ w. bill * w % whole ws)

-- one share for each weight
pub shares_count : (bill : ℕ) (ws : List ℕ) → length (shares bill ws) ≡ length ws
unfolding shares
shares_count bill ws = length_listed (share_at bill ws) 0 (length ws)
