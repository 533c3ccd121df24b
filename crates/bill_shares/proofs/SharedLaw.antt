-- Request 114, the numbers: shares total the bill, each is less than one penny from the exact share, and the remaining pence go
-- one each to the largest remainders. Assumes nothing.
use Prim.Native.Nat.{ℕ, zero, suc, ◌+◌, ◌*◌, ◌/◌, ◌%◌, ◌≤◌, ◌<◌}
use mathlib.Core.Path.{◌≡◌, refl, sym, ap, subst, ◌∙◌}
use mathlib.Core.List.{List, map}
use mathlib.Core.Bool.{Bool, true, false, cond, not, false≢true}
use mathlib.Core.Logic.{◌⊎◌, inl, inr}
use native.Mathlib.Omega.{arith}
use native.Mathlib.Decide.{ℕ_discrete}
use native.Mathlib.Nat.{mul-add, mul-suc, mul-zero, mul_comm, mod-lt, div-add-mod, mul-le-mul_left, lt_of_mul-lt-mul_left}
use lib.ListN.{length, get_or}
use lib.Dec.{ltb, eqb}
use borrow.Author.Tests.{ltb-true, ltb-false, eq-eqb, ne_eqb}
use Rattle.std.proofs.lemmas.List.{get_or-map}
use Rattle.bill_shares.specs.Shares.{whole, floors, remainders, remaining, comes_before, count_below, rank_of, share_at, listed, shares}
use Rattle.bill_shares.specs.Statement.{Shared, SharedLaw}
use Rattle.bill_shares.proofs.Counting.{count_next, count_empty, count_mono, count_most}
use Rattle.bill_shares.proofs.ShareLaws.{at_most_whole, listed_at, listed_items, whole_next, whole_empty, whole_pennies, divided, floors_most, floors_count, remainders_count, shares_count}
use Rattle.bill_shares.proofs.RankLaws.{Before, true_before, one_before, rank_less, ranks_below}

abbrev is_some : ℕ → Bool
is_some r = not (eqb r 0)

-- how many values are above 0
abbrev somes : (ℕ → ℕ) → ℕ → ℕ
somes f n = count_below (λ i. is_some (f i)) n

-- each value above 0 is at least one below D
some_below : (D : ℕ) (f : ℕ → ℕ) (n : ℕ) → ((i : ℕ) → i < n → f i < D) → whole (listed f 0 n) + somes f n ≤ D * somes f n
some_below D f zero h = omega (arith, whole_empty f, count_empty (λ i. is_some (f i)), mul-zero D)
some_below D f (suc n) h = look (some_below D f n (λ i l. h i (omega arith))) (ℕ_discrete (f n) 0)
  where
    step : (b : Bool) → is_some (f n) ≡ b → somes f (suc n) ≡ somes f n + cond b 1 0
    step b q = count_next (λ i. is_some (f i)) n ∙ ap (λ b. somes f n + cond b 1 0) q

    look : whole (listed f 0 n) + somes f n ≤ D * somes f n → Dec (f n ≡ 0) → whole (listed f 0 (suc n)) + somes f (suc n) ≤ D * somes f (suc n)
    look ih (yes q) =
        let z : somes f (suc n) ≡ somes f n = step false (ap not (eq-eqb (f n) 0 q)) ∙ omega arith in
        let y : D * somes f (suc n) ≡ D * somes f n = ap (λ k. D * k) z in
        omega (arith, ih, z, y, whole_next f n)
    look ih (no q) =
        let z : somes f (suc n) ≡ suc (somes f n) = step true (ap not (ne_eqb (f n) 0 q)) ∙ omega arith in
        let y : D * somes f (suc n) ≡ D * somes f n + D = ap (λ k. D * k) z ∙ mul-suc D (somes f n) in
        omega (arith, ih, z, y, whole_next f n, h n (omega arith))

module _ (bill : ℕ) (ws : List ℕ) (some : 0 < whole ws) where
  abbrev W : ℕ
  W = whole ws

  abbrev fs : List ℕ
  fs = floors bill ws

  abbrev rs : List ℕ
  rs = remainders bill ws

  abbrev k : ℕ
  k = remaining bill ws

  -- the quotient and the remainder of a place
  exact : (i : ℕ) → i < length ws → W * get_or fs i 0 + get_or rs i 0 ≡ bill * get_or ws i 0
  unfolding floors remainders
  exact i h =
      let n = bill * get_or ws i 0 in
      let a = get_or-map (λ w. bill * w / whole ws) ws i 0 0 h in
      let b = get_or-map (λ w. bill * w % whole ws) ws i 0 0 h in
      let c : whole ws * get_or (map (λ w. bill * w / whole ws) ws) i 0 ≡ whole ws * (n / whole ws) = ap (λ x. whole ws * x) a in
      omega (arith, b, c, div-add-mod n (whole ws))

  small : (i : ℕ) → i < length ws → get_or rs i 0 < W
  unfolding remainders
  small i h = subst (λ x. x < whole ws) (sym (get_or-map (λ w. bill * w % whole ws) ws i 0 0 h)) (mod-lt (bill * get_or ws i 0) some)

  sums : W * whole fs + whole rs ≡ bill * W
  unfolding floors remainders
  sums = divided bill (whole ws) ws

  bill_is : whole fs + k ≡ bill
  unfolding remaining
  bill_is = omega (arith, floors_most bill ws)

  rest_is : whole rs ≡ W * k
  rest_is =
      let a : W * bill ≡ W * (whole fs + k) = ap (λ x. W * x) (sym bill_is) in
      omega (arith, sums, mul_comm bill W, a, mul-add W (whole fs) k)

  -- how many remainders are above 0
  abbrev owed : ℕ
  owed = somes (λ i. get_or rs i 0) (length rs)

  many_some : whole rs + owed ≤ W * owed
  many_some =
      let most = some_below W (λ i. get_or rs i 0) (length rs) (λ i h. small i (omega (arith, remainders_count bill ws))) in
      omega (arith, most, ap whole (listed_items rs))

  -- where a penny is left, more places than pence have a remainder
  more_some : 0 < k → k < owed
  more_some h =
      let one : W * 1 ≤ W * k = mul-le-mul_left W (omega arith) in
      let there : 0 < owed = positive (ℕ_discrete owed 0) one in
      lt_of_mul-lt-mul_left W (omega (arith, many_some, rest_is, there))
    where
      positive : Dec (owed ≡ 0) → W * 1 ≤ W * k → 0 < owed
      positive (no q) one = omega arith
      positive (yes q) one =
          let z : W * owed ≡ W * 0 = ap (λ x. W * x) q in
          let bad : ⊥ = omega (arith, many_some, rest_is, z, mul-zero W, one, some) in
          absurd bad

  few_pence : k ≤ length rs
  few_pence = look (ℕ_discrete k 0)
    where
      look : Dec (k ≡ 0) → k ≤ length rs
      look (yes q) = omega arith
      look (no q) = omega (arith, more_some (omega arith), count_most (λ i. is_some (get_or rs i 0)) (length rs))

  -- a place without a remainder comes behind all that have one
  late : (i : ℕ) → get_or rs i 0 ≡ 0 → owed ≤ rank_of rs i
  unfolding rank_of
  late i z =
      count_mono (λ j. is_some (get_or rs j 0)) (comes_before rs i) (length rs) (λ j x p. true_before rs i j (inl (ahead j p)))
    where
      ahead : (j : ℕ) → is_some (get_or rs j 0) ≡ true → get_or rs i 0 < get_or rs j 0
      ahead j p = look (ℕ_discrete (get_or rs j 0) 0)
        where
          look : Dec (get_or rs j 0 ≡ 0) → get_or rs i 0 < get_or rs j 0
          look (yes q) = absurd (false≢true (sym (ap not (eq-eqb (get_or rs j 0) 0 q)) ∙ p))
          look (no q) = omega arith

  abbrev penny : ℕ → Bool
  penny i = ltb (rank_of rs i) k

  share_is : (i : ℕ) → i < length ws → get_or (shares bill ws) i 0 ≡ get_or fs i 0 + cond (penny i) 1 0
  unfolding shares share_at
  share_is i h = listed_at (λ j. get_or fs j 0 + cond (penny j) 1 0) (length ws) i h

  -- What place i has got: nothing, or a penny, by its rank.
  data Got (i : ℕ) : Type 0 where
    nothing : get_or (shares bill ws) i 0 ≡ get_or fs i 0 → k ≤ rank_of rs i → Got i
    a_penny : get_or (shares bill ws) i 0 ≡ suc (get_or fs i 0) → rank_of rs i < k → Got i

  got : (i : ℕ) → i < length ws → Got i
  got i h = look (penny i) refl
    where
      look : (b : Bool) → penny i ≡ b → Got i
      look true q =
          a_penny (omega (arith, share_is i h ∙ ap (λ b. get_or fs i 0 + cond b 1 0) q)) (ltb-true (rank_of rs i) k q)
      look false q =
          nothing (omega (arith, share_is i h ∙ ap (λ b. get_or fs i 0 + cond b 1 0) q)) (ltb-false (rank_of rs i) k q)

  -- a penny goes to a remainder above 0
  penny_owed : (i : ℕ) → rank_of rs i < k → 0 < get_or rs i 0
  penny_owed i h = look (ℕ_discrete (get_or rs i 0) 0)
    where
      look : Dec (get_or rs i 0 ≡ 0) → 0 < get_or rs i 0
      look (no q) = omega arith
      look (yes q) = let bad : ⊥ = omega (arith, late i q, more_some (omega arith), h) in absurd bad

  all_pieces : whole (shares bill ws) ≡ whole (listed (λ i. get_or fs i 0) 0 (length ws)) + count_below penny (length ws)
  unfolding shares share_at
  all_pieces = whole_pennies (λ i. get_or fs i 0) penny (length ws)

  totals : whole (shares bill ws) ≡ bill
  totals =
      let low : whole (listed (λ i. get_or fs i 0) 0 (length ws)) ≡ whole fs =
      ap (λ n. whole (listed (λ i. get_or fs i 0) 0 n)) (sym (floors_count bill ws)) ∙ ap whole (listed_items fs) in
      let pence : count_below penny (length ws) ≡ k =
      ap (count_below penny) (sym (remainders_count bill ws)) ∙ ranks_below rs k few_pence in
      omega (arith, all_pieces, low, pence, bill_is)

  not_below : (i : ℕ) → i < length ws → Got i → bill * get_or ws i 0 < W * get_or (shares bill ws) i 0 + W
  not_below i h (nothing x r) =
      let y : W * get_or (shares bill ws) i 0 ≡ W * get_or fs i 0 = ap (λ z. W * z) x in
      omega (arith, y, exact i h, small i h)
  not_below i h (a_penny x r) =
      let y : W * get_or (shares bill ws) i 0 ≡ W * get_or fs i 0 + W = ap (λ z. W * z) x ∙ mul-suc W (get_or fs i 0) in
      omega (arith, y, exact i h, small i h)

  not_above : (i : ℕ) → i < length ws → Got i → W * get_or (shares bill ws) i 0 < bill * get_or ws i 0 + W
  not_above i h (nothing x r) =
      let y : W * get_or (shares bill ws) i 0 ≡ W * get_or fs i 0 = ap (λ z. W * z) x in
      omega (arith, y, exact i h, some)
  not_above i h (a_penny x r) =
      let y : W * get_or (shares bill ws) i 0 ≡ W * get_or fs i 0 + W = ap (λ z. W * z) x ∙ mul-suc W (get_or fs i 0) in
      omega (arith, y, exact i h, penny_owed i r)

  one_each : (i : ℕ) → Got i → (get_or (shares bill ws) i 0 ≡ get_or fs i 0) ⊎ (get_or (shares bill ws) i 0 ≡ suc (get_or fs i 0))
  one_each i (nothing x r) = inl x
  one_each i (a_penny x r) = inr x

  largest :
      (i j : ℕ) → j < length ws → get_or (shares bill ws) i 0 ≡ suc (get_or fs i 0) → get_or (shares bill ws) j 0 ≡ get_or fs j 0
      → Got i → Got j → Before rs j i
  largest i j g a b (nothing x r) y = let bad : ⊥ = omega (arith, a, x) in absurd bad
  largest i j g a b (a_penny x r) (a_penny y s) = let bad : ⊥ = omega (arith, b, y) in absurd bad
  largest i j g a b (a_penny x r) (nothing y s) = sort (ℕ_discrete j i)
    where
      order : Before rs j i ⊎ Before rs i j → Before rs j i
      order (inl z) = z
      order (inr z) = let bad : ⊥ = omega (arith, rank_less rs i j (omega (arith, remainders_count bill ws)) z, r, s) in absurd bad

      sort : Dec (j ≡ i) → Before rs j i
      sort (no ne) = order (one_before rs j i ne)
      sort (yes e) = let q = ap (rank_of rs) e in let bad : ⊥ = omega (arith, q, r, s) in absurd bad

  all_holds : Shared bill ws
  all_holds =
      record {
        count = shares_count bill ws;
        totals = totals;
        not_above = λ i h. not_above i h (got i h);
        not_below = λ i h. not_below i h (got i h);
        one_each = λ i h. one_each i (got i h);
        largest = λ i j h g a b. largest i j g a b (got i h) (got j g);
      }

pub shared : SharedLaw
shared = all_holds

-- no share is above the bill
pub shares_small : (bill : ℕ) (ws : List ℕ) → 0 < whole ws → (i : ℕ) → get_or (shares bill ws) i 0 ≤ bill
shares_small bill ws some i = omega (arith, at_most_whole (shares bill ws) i, (shared bill ws some).totals)
