-- Laws of the reader's loops: things taken one behind the other, as the items of a row and the rows of a table, and where they
-- are put.
use Rattle.std.proofs.Common.{ℕ, suc, ◌≡◌, ◌+◌, ◌-◌, ◌*◌, ◌≤◌, ◌<◌, min, List, [], ◌∷◌, ◌++◌, length, take, drop, set, arith, refl, sym, ap, ◌∙◌, add-one}
use native.Mathlib.Nat.{mul-suc, mul-zero, mul-le-mul_left}
use Rattle.std.proofs.lemmas.List.{take-take, drop-take, drop-drop, take_more_set, length-take-le}
use Rattle.std.proofs.lemmas.Slice.{take-put_mid_below, between-put_mid}
use borrow.Rule.Slice.PartMut.{put_mid}
use Rattle.tasklist.specs.Fields.{Taken, bad, took, and_then, counted, many, row}
use Rattle.tasklist.specs.Tables.{rows}

-- of n things i are taken, those that are done, and the others are still to be taken
pub record Taking (A : Type 0) (item : ℕ → List ℕ → Taken A) (n : ℕ) (start : List ℕ) (i : ℕ) (done : List A) (b : List ℕ) : Type 0 where
  pub left : many item 0 n [] start ≡ many item i (n - i) done b

pub taking_opens : {A : Type 0} (item : ℕ → List ℕ → Taken A) (n : ℕ) (start : List ℕ) → Taking A item n start 0 [] start
taking_opens item n start =
    let all : n ≡ n - 0 = omega arith in
    record { left = ap (λ (m : ℕ). many item 0 m [] start) all }

module _ {A : Type 0} {item : ℕ → List ℕ → Taken A} {n : ℕ} {start : List ℕ} {i : ℕ} {done : List A} {b : List ℕ} (so_far : Taking A item n start i done b) where
  next : i < n → many item 0 n [] start ≡ and_then (item i b) (λ a rest. many item (i + 1) (n - (i + 1)) (done ++ (a ∷ [])) rest)
  unfolding many
  next h =
      let more : n - i ≡ suc (n - (i + 1)) = omega arith in
      so_far.left ∙ rw (more, ← add-one i)

  pub taking_stops : (j : ℕ) → i < n → item i b ≡ bad j → bad j ≡ many item 0 n [] start
  taking_stops j h e = sym (next h ∙ rw e)

  pub taking_more : (x : A) (rest : List ℕ) (done' : List A) → i < n → item i b ≡ took x rest → done' ≡ done ++ (x ∷ [])
      → Taking A item n start (i + 1) done' rest
  taking_more x rest done' h e q = record { left = next h ∙ rw (e, q) }

  pub taking_closes : (done' : List A) → n ≤ i → done ≡ done' → took done' b ≡ many item 0 n [] start
  unfolding many
  taking_closes done' h q =
      let none : n - i ≡ 0 = omega arith in
      sym (so_far.left ∙ rw (none, q))

-- a record whose count is taken is the items behind it
pub counted_row : {A : Type 0} (second w k : ℕ) (item : ℕ → ℕ → List ℕ → Taken A) (b : List ℕ) (n : ℕ) (rest : List ℕ)
    → counted second w k b ≡ took n rest → row second w k item b ≡ many (item n) 0 n [] rest
unfolding row
counted_row second w k item b n rest e = rw e

pub uncounted_row : {A : Type 0} (second w k : ℕ) (item : ℕ → ℕ → List ℕ → Taken A) (b : List ℕ) (j : ℕ)
    → counted second w k b ≡ bad j → row second w k item b ≡ bad j
unfolding row
uncounted_row second w k item b j e = rw e

-- rows stand at the front of their table
rows_front : {A : Type 0} (w : ℕ) (ns : List ℕ) (xs : List A) → rows w ns (take (w * length ns) xs) ≡ rows w ns xs
unfolding rows
rows_front w [] xs = refl
rows_front w (n ∷ ns) xs =
    let all : w * suc (length ns) ≡ w + w * length ns = omega (arith, mul-suc w (length ns)) in
    let first : take (min n w) (take (w * suc (length ns)) xs) ≡ take (min n w) xs = take-take (min n w) (w * suc (length ns)) xs (omega arith) in
    let behind : drop w (take (w * suc (length ns)) xs) ≡ take (w * length ns) (drop w xs) = rw all (drop-take w (w * length ns) xs) in
    rw (first, behind, rows_front w ns (drop w xs))

-- one more size is one more row
rows_more : {A : Type 0} (w : ℕ) (ns : List ℕ) (n : ℕ) (xs : List A)
    → rows w (ns ++ (n ∷ [])) xs ≡ rows w ns xs ++ (take (min n w) (drop (w * length ns) xs) ∷ [])
unfolding rows
rows_more w [] n xs = rw (mul-zero w)
rows_more w (m ∷ ns) n xs =
    let all : w * suc (length ns) ≡ w + w * length ns = omega (arith, mul-suc w (length ns)) in
    rw (all, rows_more w ns n (drop w xs), drop-drop (w * length ns) w xs)

-- a row that is put behind the rows before it
pub row_put : {A : Type 0} (w s n : ℕ) (sizes : List ℕ) (xs r : List A) → s < length sizes → n ≤ w → w * s + n ≤ length xs → length r ≡ n
    → rows w (take (s + 1) (set sizes s n)) (put_mid (w * s) (w * s + n - w * s) xs r) ≡ rows w (take s sizes) xs ++ (r ∷ [])
row_put w s n sizes xs r h l f e =
    let ys = put_mid (w * s) (w * s + n - w * s) xs r in
    let few : length (take s sizes) ≡ s = length-take-le s sizes (omega arith) in
    let front : take (w * length (take s sizes)) ys ≡ take (w * length (take s sizes)) xs =
    rw few (take-put_mid_below (w * s) (w * s + n - w * s) xs r (w * s) (omega arith) (omega arith)) in
    let before : rows w (take s sizes) ys ≡ rows w (take s sizes) xs =
    sym (rows_front w (take s sizes) ys) ∙ ap (rows w (take s sizes)) front ∙ rows_front w (take s sizes) xs in
    let size : min n w ≡ w * s + n - w * s = omega arith in
    let here : take (min n w) (drop (w * s) ys) ≡ r = rw size (between-put_mid (w * s) (w * s + n - w * s) xs r (w * s + n) (omega arith) (omega arith)) in
    rw (take_more_set sizes s n h, rows_more w (take s sizes) n ys, few, before, here)

-- a row of n items ends within N rows
pub row_fits : (w s n N : ℕ) → s < N → n ≤ w → w * s + n ≤ w * N
row_fits w s n N h l = omega (arith, mul-suc w s, mul-le-mul_left w h)
