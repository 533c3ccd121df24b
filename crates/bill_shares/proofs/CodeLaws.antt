-- What the functions and the loops of the code come to. Assumes nothing.
use Prim.Native.Nat.{ℕ, zero, suc, ◌+◌, ◌-◌, ◌*◌, ◌/◌, ◌%◌, ◌^◌, ◌≤◌, ◌<◌, min}
use mathlib.Core.Path.{◌≡◌, refl, sym, ap, subst, ◌∙◌}
use mathlib.Core.List.{List, ◌∷◌, ◌++◌, map}
use mathlib.Core.Bool.{Bool, true, false, cond, ◌&&◌, ◌||◌}
use native.Mathlib.Omega.{arith}
use native.Mathlib.Decide.{dec_lt}
use native.Mathlib.Numerals.{add-one}
use Rattle.std.proofs.Common.{zero-add, get_or-take}
use lib.ListN.{length, length-map, length-take, take, get_or, set, replicate}
use lib.Seq.{get_or-set_same, get_or-set_other, append_snoc, set_at, take_all, ext_get_or}
use lib.Dec.{ltb, eqb}
use borrow.Author.Tests.{ltb-true}
use mir.Val.{bool_byte}
use Rattle.std.specs.List.{enumerate_from, sum_by}
use Rattle.std.proofs.lemmas.List.{get_or-map}
use Rattle.std.proofs.lemmas.List.FromFn.{get_or-enumerate_from, length-enumerate_from}
use Rattle.std.proofs.lemmas.List.Sums.{sum_by_more}
use Rattle.bill_shares.specs.declared.Part.{Part}
use Rattle.bill_shares.specs.Shares.{whole, floors, remainders, remaining, comes_before, count_below, rank_of, share_at, listed, shares}
use Rattle.bill_shares.proofs.Counting.{count_next, count_empty}
use Rattle.bill_shares.proofs.ShareLaws.{at_most_whole, length_listed, listed_next, floors_count}

abbrev pub none : Part
none = record { floor = 0; remainder = 0 }

-- what a weight comes to, where it is at most the whole
abbrev pub ComesTo : ℕ → ℕ → ℕ → Part → Type 0
ComesTo bill all w p = w ≤ all → (p.floor ≡ bill * w / all) × (p.remainder ≡ bill * w % all)

-- one part more
module _ (bill all : ℕ) (weights : List ℕ) (parts : List Part) (next : Part) (i : ℕ) where
  pub comes_next :
      i < length parts → ((k : ℕ) → k < i → ComesTo bill all (get_or weights k 0) (get_or parts k none))
      → ComesTo bill all (get_or weights i 0) next
      → (k : ℕ) → k < i + 1 → ComesTo bill all (get_or weights k 0) (get_or (set parts i next) k none)
  comes_next inside held new k h = sort (dec_lt k i)
    where
      sort : Dec (k < i) → ComesTo bill all (get_or weights k 0) (get_or (set parts i next) k none)
      sort (yes l) = subst (ComesTo bill all (get_or weights k 0)) (sym (get_or-set_other parts i k next none (λ e. omega (arith, e)))) (held k l)
      sort (no l) =
          let same : k ≡ i = omega arith in
          subst (λ j. ComesTo bill all (get_or weights j 0) (get_or (set parts i next) j none)) (sym same)
          (subst (ComesTo bill all (get_or weights i 0)) (sym (get_or-set_same parts i next none inside)) new)

-- a truth as a number
penny_is : (b : Bool) → bool_byte b ≡ cond b 1 0
penny_is true = refl
penny_is false = refl

-- The parts are those of the weights that count.
module _ (count : ℕ) (weights : List ℕ) (parts : List Part) (long : length weights ≡ 128) (many : length parts ≡ 128) where
  pub parts_are :
      (of : Part → ℕ) (value : ℕ → ℕ)
      → ((k : ℕ) → k < min count 128 → get_or weights k 0 ≤ whole (take count weights) → of (get_or parts k none) ≡ value (get_or weights k 0))
      → map of (take (min count 128) parts) ≡ map value (take count weights)
  parts_are of value each =
      let xs = take (min count 128) parts in
      let ws = take count weights in
      let size = length-map xs of in
      let same : length (map of xs) ≡ length (map value ws) =
      omega (arith, size, length-map ws value, length-take (min count 128) parts, length-take count weights) in
      ext_get_or 0 (map of xs) (map value ws) same
      (λ i h.
      let inside : i < length ws = omega (arith, size, length-take (min count 128) parts, length-take count weights) in
      let weight = get_or-take count weights i 0 (omega (arith, length-take count weights)) in
      get_or-map of xs i none 0 (omega (arith, size))
      ∙ ap of (get_or-take (min count 128) parts i none (omega (arith, size, length-take (min count 128) parts)))
      ∙ each i (omega (arith, size, length-take (min count 128) parts)) (omega (arith, weight, at_most_whole ws i))
      ∙ ap value (sym weight) ∙ sym (get_or-map value ws i 0 0 inside))

-- The places counted are those that come before place i.
module _ (parts : List Part) (i : ℕ) where
  abbrev left : List ℕ
  left = map (λ p. p.remainder) parts

  abbrev pub before : ℕ → ℕ × Part → Bool
  before m q = ltb m q.1.remainder || (eqb m q.1.remainder && ltb q.0 i)

  before_at : (j : ℕ) → j < length parts → before (get_or left i 0) (get_or (enumerate_from 0 parts) j (0, none)) ≡ comes_before left i j
  unfolding comes_before
  before_at j h =
      ap (before (get_or left i 0)) (get_or-enumerate_from 0 parts j (0, none) h)
      ∙ ap (λ r. ltb (get_or left i 0) r || (eqb (get_or left i 0) r && ltb (0 + j) i)) (sym (get_or-map (λ p. p.remainder) parts j none 0 h))
      ∙ ap (λ k. ltb (get_or left i 0) (get_or left j 0) || (eqb (get_or left i 0) (get_or left j 0) && ltb k i)) (zero-add j)

  counted : (n : ℕ) → n ≤ length parts → sum_by (λ q. bool_byte (before (get_or left i 0) q)) (take n (enumerate_from 0 parts)) ≡ count_below (comes_before left i) n
  counted zero h = sym (count_empty (comes_before left i))
  counted (suc n) h =
      let each : ℕ × Part → ℕ = λ q. bool_byte (before (get_or left i 0) q) in
      let some : n < length (enumerate_from 0 parts) = omega (arith, length-enumerate_from 0 parts) in
      ap (λ k. sum_by each (take k (enumerate_from 0 parts))) (sym (add-one n))
      ∙ sum_by_more each (enumerate_from 0 parts) n (0, none) some
      ∙ ap (λ k. k + each (get_or (enumerate_from 0 parts) n (0, none))) (counted n (omega arith))
      ∙ ap (λ b. count_below (comes_before left i) n + bool_byte b) (before_at n (omega arith))
      ∙ ap (λ k. count_below (comes_before left i) n + k) (penny_is (comes_before left i n))
      ∙ sym (count_next (comes_before left i) n)

  pub rank_counted : i < length parts → (m : ℕ) → m ≡ get_or left i 0 → sum_by (λ q. bool_byte (before m q)) (enumerate_from 0 parts) ≡ rank_of left i
  unfolding rank_of
  rank_counted h m q =
      ap (λ m. sum_by (λ q. bool_byte (before m q)) (enumerate_from 0 parts)) q
      ∙ ap (sum_by (λ q. bool_byte (before (get_or left i 0) q))) (sym (take_all (length parts) (enumerate_from 0 parts) (omega (arith, length-enumerate_from 0 parts))))
      ∙ counted (length parts) (omega arith)
      ∙ ap (count_below (comes_before left i)) (sym (length-map parts (λ p. p.remainder)))

-- what place i gets
abbrev pub given : List ℕ → List ℕ → ℕ → ℕ → ℕ
given fs rs pence i = get_or fs i 0 + cond (ltb (rank_of rs i) pence) 1 0

-- the part read at place i of the parts, and the penny that it gets or does not get
module _
    (parts read : List Part) (same : read ≡ parts) (pence i rank penny : ℕ) (inside : i < length read) (q : penny ≡ bool_byte (ltb rank pence))
  where
    floor_is : (get_or read i none).floor ≡ get_or (map (λ p. p.floor) parts) i 0
    floor_is =
        ap (λ ps. (get_or ps i none).floor) same ∙ sym (get_or-map (λ p. p.floor) parts i none 0 (omega (arith, ap length same)))

    remainder_is : (get_or read i none).remainder ≡ get_or (map (λ p. p.remainder) parts) i 0
    remainder_is =
        ap (λ ps. (get_or ps i none).remainder) same ∙ sym (get_or-map (λ p. p.remainder) parts i none 0 (omega (arith, ap length same)))

    pub given_is :
        (i < length parts → (get_or read i none).remainder ≡ get_or (map (λ p. p.remainder) parts) i 0 → rank ≡ rank_of (map (λ p. p.remainder) parts) i)
        → (get_or read i none).floor + penny ≡ given (map (λ p. p.floor) parts) (map (λ p. p.remainder) parts) pence i
    given_is r =
        ap (λ f. f + penny) floor_is
        ∙ ap (λ n. get_or (map (λ p. p.floor) parts) i 0 + n) (q ∙ penny_is (ltb rank pence))
        ∙ ap (λ k. get_or (map (λ p. p.floor) parts) i 0 + cond (ltb k pence) 1 0) (r (omega (arith, ap length same)) remainder_is)

    -- a penny is left only where the floors are less than the bill
    pub given_fits :
        (bill : ℕ) → pence ≡ bill - whole (map (λ p. p.floor) parts) → bill < 2 ^ 32 → (get_or read i none).floor < 2 ^ 32
        → (get_or read i none).floor + penny < 2 ^ 32
    given_fits bill left small low = cases (ltb rank pence) refl
      where
        cases : (b : Bool) → ltb rank pence ≡ b → (get_or read i none).floor + penny < 2 ^ 32
        cases true e = omega (arith, ltb-true rank pence e, q, ap bool_byte e, floor_is, at_most_whole (map (λ p. p.floor) parts) i)
        cases false e = omega (arith, q, ap bool_byte e)

-- one value more, with zeros behind
pub listed_more :
    (f : ℕ → ℕ) (out : List ℕ) (i v : ℕ) → i < 128 → v ≡ f i → out ≡ listed f 0 i ++ replicate (128 - i) 0
    → set out i v ≡ listed f 0 (i + 1) ++ replicate (128 - (i + 1)) 0
listed_more f out i v h e held =
    let rest : List ℕ = replicate (128 - (i + 1)) 0 in
    let more : 128 - i ≡ suc (128 - (i + 1)) = omega arith in
    ap (λ l. set l i v) (held ∙ ap (λ k. listed f 0 i ++ replicate k 0) more)
    ∙ set_at (listed f 0 i) 0 rest v i (length_listed f 0 i)
    ∙ ap (λ x. listed f 0 i ++ x ∷ rest) e
    ∙ sym (append_snoc (listed f 0 i) (f i) rest)
    ∙ ap (λ l. l ++ rest) (sym (listed_next f i))
    ∙ ap (λ k. listed f 0 k ++ rest) (sym (add-one i))

-- the floors and the remainders come to the shares, with zeros behind
pub shares_are :
    (bill count n : ℕ) (weights fs rs out : List ℕ) → length weights ≡ 128 → fs ≡ floors bill (take count weights)
    → rs ≡ remainders bill (take count weights) → n ≡ length fs → out ≡ listed (given fs rs (bill - whole fs)) 0 n ++ replicate (128 - n) 0
    → out ≡ shares bill (take count weights) ++ replicate (128 - count) 0
unfolding shares share_at remaining
shares_are bill count n weights fs rs out long down left many held =
    let ws = take count weights in
    let each : ℕ → ℕ = given (floors bill ws) (remainders bill ws) (bill - whole (floors bill ws)) in
    let size : n ≡ length ws = many ∙ ap length down ∙ floors_count bill ws in
    let behind : 128 - n ≡ 128 - count = omega (arith, length-take count weights) in
    held
    ∙ ap (λ l. listed (given l rs (bill - whole l)) 0 n ++ replicate (128 - n) 0) down
    ∙ ap (λ l. listed (given (floors bill ws) l (bill - whole (floors bill ws))) 0 n ++ replicate (128 - n) 0) left
    ∙ ap (λ k. listed each 0 k ++ replicate (128 - n) 0) size
    ∙ ap (λ k. listed each 0 (length ws) ++ replicate k 0) behind
