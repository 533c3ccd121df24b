-- Laws of the table of modes: rows read and written, in the code's terms and for the layer above. Assumes nothing.
use Prim.Native.Nat.{ℕ, ◌+◌, ◌-◌, ◌*◌, ◌≤◌, ◌<◌}
use mathlib.Core.Path.{◌≡◌, refl, sym, ap, ◌∙◌}
use mathlib.Core.List.{List, [], ◌++◌, append_assoc}
use mathlib.Core.Logic.{◌≢◌}
use native.Mathlib.Omega.{arith}
use native.Mathlib.Decide.{dec_lt}
use lib.ListN.{length, replicate, take-append-drop, take, drop, get_or, length-take, length-drop, length-append, drop_of_length-le, get_or-eq_default}
use lib.Seq.{take_all, get_or-take, get_or-drop, length-take-le, drop-drop, take_at, drop_at, drop-append-add, take-append-le, drop-append-le}
use Rattle.std.proofs.lemmas.List.{drop-replicate, take-replicate}
use Rattle.std.proofs.lemmas.Slice.{put_mid-paste}
use borrow.Rule.Slice.PartMut.{put_mid}
use Rattle.semantics.specs.Run.{no_modes}
use Rattle.arrays.specs.Rows.{row, with}

-- one place of a row
pub row_place : (k a : ℕ) (modes : List ℕ) → a < 64 → get_or modes (64 * k + a) 0 ≡ get_or (row k modes) a 0
unfolding row
row_place k a modes h = sym (get_or-take 64 (drop (64 * k) modes) a 0 h ∙ get_or-drop (64 * k) modes a 0)

pub row_past : (k a : ℕ) (modes : List ℕ) → 64 ≤ a → 0 ≡ get_or (row k modes) a 0
unfolding row
row_past k a modes h = sym (get_or-eq_default (take 64 (drop (64 * k) modes)) 0 (omega (arith, length-take 64 (drop (64 * k) modes))))

-- past the last row there is none
pub row_none : (k : ℕ) (modes : List ℕ) → length modes ≤ 64 * k → row k modes ≡ []
unfolding row
row_none k modes h = ap (take 64) (drop_of_length-le modes h)

pub row_beyond : (k a : ℕ) (modes : List ℕ) → length modes ≡ 8192 → 128 ≤ k → 0 ≡ get_or (row k modes) a 0
row_beyond k a modes n h = ap (λ (l : List ℕ). get_or l a 0) (sym (row_none k modes (omega arith)))

-- for the mode of a task at a location
pub ruleset places = (row_place, row_past, row_beyond)

pub row_length : (k : ℕ) (modes : List ℕ) → length modes ≡ 8192 → k < 128 → length (row k modes) ≡ 64
unfolding row
row_length k modes n h = length-take-le 64 (drop (64 * k) modes) (omega (arith, length-drop (64 * k) modes))

-- a table of one value
pub row_zeros : (n k : ℕ) → 64 * k + 64 ≤ n → row k (replicate n 0) ≡ no_modes
unfolding row no_modes
row_zeros n k h = ap (take 64) (drop-replicate (64 * k) n 0) ∙ take-replicate 64 (n - 64 * k) 0 (omega arith)

-- a row is written over another
pub row_put : (k n : ℕ) (d new : List ℕ) → n ≡ 64 → length new ≡ 64 → put_mid (64 * k) n d new ≡ with k new d
unfolding with
row_put k n d new n_is l =
    put_mid-paste (64 * k) n d new new 64 refl (sym n_is) (sym l) ∙
    ap (λ m. take (64 * k) d ++ m ++ drop (64 * k + 64) d) (take_all 64 new (omega arith))

row_front : (j : ℕ) (a b : List ℕ) → 64 * j + 64 ≤ length a → row j (a ++ b) ≡ row j a
unfolding row
row_front j a b h =
    ap (take 64) (drop-append-le (64 * j) a b (omega arith)) ∙
    take-append-le 64 (drop (64 * j) a) b (omega (arith, length-drop (64 * j) a))

-- a row put leaves the others
module _ (k : ℕ) (new flat : List ℕ) (n : length new ≡ 64) (l : length flat ≡ 8192) (b : k < 128) where
  head_length : length (take (64 * k) flat ++ new) ≡ 64 * k + 64
  head_length = length-append (take (64 * k) flat) new ∙ omega (arith, length-take-le (64 * k) flat (omega arith))

  pub with_length : length (with k new flat) ≡ 8192
  unfolding with
  with_length =
      length-append (take (64 * k) flat ++ new) (drop (64 * k + 64) flat) ∙
      omega (arith, head_length, length-drop (64 * k + 64) flat)

  pub row_with : row k (with k new flat) ≡ new
  unfolding row with
  row_with =
      ap (take 64)
      (ap (drop (64 * k)) (append_assoc (take (64 * k) flat) new (drop (64 * k + 64) flat)) ∙
      drop_at (take (64 * k) flat) (new ++ drop (64 * k + 64) flat) (64 * k) (length-take-le (64 * k) flat (omega arith))) ∙
      take_at new (drop (64 * k + 64) flat) 64 n

  pub row_with_other : (j : ℕ) → j ≢ k → row j (with k new flat) ≡ row j flat
  unfolding with row
  row_with_other j ne = by_side (dec_lt j k)
    where
      before : j < k → row j (with k new flat) ≡ row j flat
      before h =
          let front : List ℕ = take (64 * k) flat in
          let far : 64 * j + 64 ≤ length front = omega (arith, length-take-le (64 * k) flat (omega arith)) in
          ap (row j) (append_assoc front new (drop (64 * k + 64) flat)) ∙
          row_front j front (new ++ drop (64 * k + 64) flat) far ∙
          sym (ap (row j) (sym (take-append-drop (64 * k) flat)) ∙ row_front j front (drop (64 * k) flat) far)

      behind : k < j → row j (with k new flat) ≡ row j flat
      behind h =
          let head : List ℕ = take (64 * k) flat ++ new in
          let m : ℕ = 64 * j - (64 * k + 64) in
          let q : 64 * j ≡ length head + m = omega (arith, head_length) in
          let s : 64 * k + 64 + m ≡ 64 * j = omega arith in
          ap (take 64)
          (ap (λ i. drop i (head ++ drop (64 * k + 64) flat)) q ∙
          drop-append-add head (drop (64 * k + 64) flat) m ∙
          drop-drop m (64 * k + 64) flat ∙ ap (λ i. drop i flat) s)

      by_side : Dec (j < k) → row j (with k new flat) ≡ row j flat
      by_side (yes h) = before h
      by_side (no h) = behind (grind (arith, ne, h))
