-- Laws of a table's rows: the items of row s, where the first `used` of 32 rows stand for something.
use Rattle.std.proofs.Common.{ℕ, ◌≡◌, ◌+◌, ◌*◌, ◌-◌, ◌≤◌, ◌<◌, min, List, [], length, get_or, take, arith, sym}
use Rattle.std.proofs.lemmas.List.{length-take, get_or-take}
use Rattle.std.specs.Prelude.{slice_range}
use Rattle.tasklist.specs.Tables.{rows}
use Rattle.tasklist.proofs.PlaceLaws.{rows_at, row_none}

module _ {A : Type 0} (w used s : ℕ) (sizes : List ℕ) (xs : List A) where
  pub row_missing : length sizes ≡ 32 → length (take (min used 32) sizes) ≤ s → [] ≡ get_or (rows w (take used sizes) xs) s []
  row_missing n h = sym (row_none w used sizes xs s (omega (arith, length-take (min used 32) sizes)))

  pub row_there : (first size : ℕ) → length sizes ≡ 32 → s < length (take (min used 32) sizes) → size ≡ get_or (take (min used 32) sizes) s 0 → first ≡ w * s
      → slice_range xs first (first + min size w) ≡ get_or (rows w (take used sizes) xs) s []
  row_there first size n h e f =
      let there : s < min used 32 = omega (arith, length-take (min used 32) sizes) in
      let counted : first + min size w - first ≡ min (get_or (take used sizes) s 0) w =
      omega (arith, get_or-take (min used 32) sizes s 0 there, get_or-take used sizes s 0 (omega arith)) in
      rw (rows_at w (take used sizes) xs s, counted, f)

pub ruleset row_items = (row_missing, row_there)
