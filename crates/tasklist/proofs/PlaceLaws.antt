-- Laws of places: what stands where in a table of rows, in the code's terms.
use Rattle.std.proofs.Common.{ℕ, zero, suc, ◌+◌, ◌*◌, ◌≤◌, ◌<◌, ◌≡◌, min, List, [], ◌∷◌, length, take, drop, get_or, arith, refl, ap, ◌∙◌}
use native.Mathlib.Nat.{mul-zero, mul-suc}
use lib.ListN.{get_or-eq_default}
use Rattle.std.proofs.lemmas.List.{length-take, drop-drop}
use Rattle.tasklist.specs.declared.Tables.{Tables}
use Rattle.tasklist.specs.Tables.{rows, list_of}

-- within a list the default does not matter
pub get_d_default : {A : Type 0} (l : List A) (i : ℕ) (d e : A) → i < length l → get_or l i d ≡ get_or l i e
get_d_default [] i d e h = let z : ⊥ = omega arith in absurd z
get_d_default (x ∷ l) zero d e h = refl
get_d_default (x ∷ l) (suc i) d e h = get_d_default l i d e (omega arith)

pub rows_length : {A : Type 0} (w : ℕ) (ns : List ℕ) (xs : List A) → length (rows w ns xs) ≡ length ns
unfolding rows
rows_length w [] xs = refl
rows_length w (n ∷ ns) xs = ap suc (rows_length w ns (drop w xs))

-- a row by its number; where there is none it is empty
pub rows_at : {A : Type 0} (w : ℕ) (ns : List ℕ) (xs : List A) (s : ℕ) → get_or (rows w ns xs) s [] ≡ take (min (get_or ns s 0) w) (drop (w * s) xs)
unfolding rows
rows_at w [] xs s =
    let q : 0 ≡ min 0 w = omega arith in
    ap (λ (m : ℕ). take m (drop (w * s) xs)) q
rows_at w (n ∷ ns) xs zero = rw (mul-zero w)
rows_at w (n ∷ ns) xs (suc s) =
    let q : w + w * s ≡ w * suc s = omega (arith, mul-suc w s) in
    rows_at w ns (drop w xs) s ∙
    ap (take (min (get_or ns s 0) w)) (drop-drop (w * s) w xs ∙ ap (λ (m : ℕ). drop m xs) q)

-- a table of 32 rows, w places apart, of which `used` stand for something
module _ {A : Type 0} (w used : ℕ) (sizes : List ℕ) (xs : List A) where
  -- past the used rows there is none
  pub row_none : (s : ℕ) → min used (length sizes) ≤ s → get_or (rows w (take used sizes) xs) s [] ≡ []
  row_none s h =
      get_or-eq_default (rows w (take used sizes) xs) []
      (rw (rows_length w (take used sizes) xs, length-take used sizes) h)

  pub rows_count : length sizes ≡ 32 → length (rows w (take used sizes) xs) ≡ min used 32
  rows_count e = rows_length w (take used sizes) xs ∙ length-take used sizes ∙ ap (min used) e

pub footprint_count_is : (t : Tables) → length t.widths ≡ 32 → length (list_of t).footprints ≡ min t.footprints 32
unfolding list_of
footprint_count_is t h = rows_count 8 t.footprints t.widths t.lines h

pub body_count_is : (t : Tables) → length t.sizes ≡ 32 → length (list_of t).bodies ≡ min t.bodies 32
unfolding list_of
body_count_is t h = rows_count 32 t.bodies t.sizes t.cells h
