-- The numbers of workers of a table, each beside its tally. Assumes nothing.
use Rattle.std.proofs.Common.{ℕ, zero, suc, ◌+◌, ◌-◌, ◌≤◌, ◌<◌, ◌≡◌, refl, sym, ap, subst, ◌∙◌, List, ◌∷◌, Bool, true, false, arith, length, get_or, Bor}
use Rattle.std.specs.Prelude.{Option, Some, None, MatchOption}
use Rattle.std.specs.declared.ops.RangeInclusive.{RangeInclusive}
use Rattle.std.specs.Range.{range_inclusive_start, range_inclusive_end, range_inclusive_exhausted, range_inclusive_len, range_inclusive_left, range_inclusive_steps}
use Rattle.std.specs.Iterator.{Yields}
use Rattle.std.specs.declared.iter.Zip.{Zip}
use Rattle.std.specs.Iterator.Adapters.{zip_first, zip_second}
use Rattle.std.specs.Slice.Iter.{iter_rest}
use Rattle.std.specs.List.{range_with_len, zip, AllWithin, HoldsAt}
use Rattle.std.proofs.Common.{Iter}
use Rattle.std.proofs.iter.Yields.{fronts}
use Rattle.std.proofs.lemmas.Iterator.{YieldsList, YieldsList-from_slice, YieldsList-from_zip, zips}
use Rattle.std.proofs.lemmas.Iterator.Consumers.{YieldsList-from_shown, YieldsList-turn, YieldsList-end}
use Rattle.std.proofs.lemmas.List.FromFn.{length-range_with_len, get_or-range_with_len}
use Rattle.std.proofs.lemmas.Slice.Zip.{length-zip, get_or-zip}
use Rattle.std.proofs.lemmas.List.{get_or_default}
use Rattle.run_rounds.specs.declared.Tally.{Tally}
use Rattle.run_rounds.specs.declared.table.RoundsTable.{RoundsTable}
use Rattle.run_rounds.specs.Reports.{tally_at}
use Rattle.host_rounds.specs.Lines.{enough_from}
use Rattle.host_rounds.specs.Promises.{rounds_at}
use Rattle.host_rounds.proofs.LineLaws.{enough_left, enough_found, enough_on, enough_none, rounds_here}
use native.Mathlib.Numerals.{add-one}

-- what a range of numbers yields, the last one with it
abbrev pub counts : RangeInclusive ℕ → Option ℕ → RangeInclusive ℕ → Type 0
counts = range_inclusive_steps (λ a b. b - a) (λ a b. b ≡ a + 1)

abbrev pub left : RangeInclusive ℕ → ℕ
left = range_inclusive_left (λ a b. b - a)

shown : RangeInclusive ℕ → List ℕ
shown s = range_with_len (range_inclusive_start s) (left s)

one_on :
    (spent : Bool) (a start last : ℕ) → (spent ≡ false → start ≡ a)
    → range_with_len a (range_inclusive_len (λ a b. b - a) start last spent)
    ≡ range_with_len start (range_inclusive_len (λ a b. b - a) start last spent)
one_on true a start last h = refl
one_on false a start last h = ap (λ k. range_with_len k (range_inclusive_len (λ a b. b - a) start last false)) (sym (h refl))

counted : (s : RangeInclusive ℕ) → YieldsList counts (λ x. x) s (range_with_len (range_inclusive_start s) (left s))
unfolding shown
counted s =
    YieldsList-from_shown counts (λ x. x) shown (λ s t h. length-range_with_len (range_inclusive_start s) (left s) ∙ h.1.0)
    (λ s x t h.
    let more : left s ≡ suc (left t) = omega (arith, h.1.1) in
    ap (range_with_len (range_inclusive_start s)) more
    ∙ ap (λ k. k ∷ range_with_len (range_inclusive_start s + 1) (left t)) (sym h.1.0)
    ∙ ap (λ l. x ∷ l) (one_on (range_inclusive_exhausted t) (range_inclusive_start s + 1) (range_inclusive_start t) (range_inclusive_end t) h.1.2)) s

-- the numbers of workers from 1 to 16, and the tallies of a table
pub record Counted (r : RoundsTable) (s : Zip (RangeInclusive ℕ) (Iter Tally)) : Type 0 where
  pub from : range_inclusive_start (zip_first s) ≡ 1
  pub to : range_inclusive_end (zip_first s) ≡ 16
  pub unspent : range_inclusive_exhausted (zip_first s) ≡ false
  pub tallies : iter_rest (zip_second s) ≡ r.reports

module _ (r : RoundsTable) (whole : length r.reports ≡ 16) where
  abbrev pub Beside : Type 0
  Beside = ℕ × Tally

  -- each number of workers beside its tally
  abbrev pub table : List Beside
  table = zip (range_with_len 1 16) r.reports

  table_long : length table ≡ 16
  table_long = omega (arith, length-zip (range_with_len 1 16) r.reports, length-range_with_len 1 16, whole)

  table_at : (i : ℕ) (d : Beside) → i < 16 → get_or table i d ≡ (i + 1, tally_at r i)
  table_at i d h =
      let number : get_or (range_with_len 1 16) i d.0 ≡ i + 1 = get_or-range_with_len 1 16 i d.0 h ∙ omega arith in
      get_or-zip (range_with_len 1 16) r.reports i d (omega (arith, h, length-range_with_len 1 16)) (omega (arith, h, whole))
      ∙ ap (λ n. (n, get_or r.reports i d.1)) number
      ∙ ap (λ t. (i + 1, t)) (get_or_default r.reports i d.1 (record { rounds = 0; calls = 0 }) (omega (arith, h, whole)))

  module _ (s : Zip (RangeInclusive ℕ) (Iter Tally)) (c : Counted r s) where
    pub beside : YieldsList (zips counts fronts) (λ p. (p.0, p.1.now)) s table
    beside =
        let many : left (zip_first s) ≡ 16 = rw (c.from, c.to, c.unspent) refl in
        YieldsList-from_zip
        (subst (YieldsList counts (λ x. x) (zip_first s)) (ap (λ k. range_with_len k (left (zip_first s))) c.from ∙ ap (range_with_len 1) many) (counted (zip_first s)))
        (YieldsList-from_slice r.reports c.tallies)

    module _ (xs : List (ℕ × Bor Tally)) (t u : Zip (RangeInclusive ℕ) (Iter Tally)) (y : Yields (zips counts fronts) s xs t) where
      -- the next number of workers is beside its tally
      pub beside_turn :
          (o : Option (ℕ × Bor Tally)) (x : ℕ × Bor Tally) → o ≡ Some x → zips counts fronts t o u
          → (length xs < 16) × (x.0 ≡ length xs + 1) × (x.1.now ≡ tally_at r (length xs))
      beside_turn o x e h =
          let next = YieldsList-turn beside xs t y o u x e h in
          let few : length xs < 16 = omega (arith, next.0, table_long) in
          let pair = next.1 ∙ table_at (length xs) (x.0, x.1.now) few in
          (few, ap (λ p. p.0) pair, ap (λ p. p.1) pair)

      pub beside_end : (o : Option (ℕ × Bor Tally)) → o ≡ None → zips counts fronts t o u → length xs ≡ 16
      beside_end o e h = (YieldsList-end beside xs t y o u e h).1 ∙ table_long

  -- the first tally with these rounds tells how many workers are enough
  module _ (span : ℕ) where
    abbrev pub Enough : Beside → Type 0
    Enough p = p.1.rounds ≡ span

    abbrev pub Fewer : Beside → Type 0
    Fewer p = p.1.rounds ≡ span → ⊥

    not_before : (n : ℕ) → n ≤ 16 → AllWithin Fewer table 0 n → enough_left span (rounds_at r) 0 ≡ enough_left span (rounds_at r) n
    not_before zero h f = refl
    not_before (suc n) h f =
        let before : n < 16 = omega (arith, h) in
        let here : rounds_at r (n + 1) ≡ span → ⊥ =
        λ e. f n (1, tally_at r 0) (omega arith) (omega arith) (ap (λ p. p.1.rounds) (table_at n (1, tally_at r 0) before) ∙ sym (rounds_here r n) ∙ e) in
        not_before n (omega (arith, h)) (λ k d low high. f k d low (omega (arith, high)))
        ∙ enough_on span (rounds_at r) n before here ∙ ap (enough_left span (rounds_at r)) (add-one n)

    pub enough_is :
        (o : Option (ℕ × Bor Tally)) (w : Option ℕ)
        → MatchOption o (AllWithin Fewer table 0 (length table))
        (λ x. Enough (x.0, x.1.now) × (i : ℕ) × (i < length table) × HoldsAt (λ p. p ≡ (x.0, x.1.now)) table i × AllWithin Fewer table 0 i)
        → MatchOption o (w ≡ None) (λ x. w ≡ Some x.0) → w ≡ enough_from 16 1 span (rounds_at r)
    enough_is None w h e =
        e ∙ sym (not_before 16 (omega arith) (subst (AllWithin Fewer table 0) table_long h) ∙ enough_none span (rounds_at r))
    enough_is (Some x) w h e =
        let few : h.1 < 16 = omega (arith, h.2, table_long) in
        let pair : (h.1 + 1, tally_at r h.1) ≡ (x.0, x.1.now) = sym (table_at h.1 (x.0, x.1.now) few) ∙ h.3 (x.0, x.1.now) in
        let span_here : rounds_at r (h.1 + 1) ≡ span = rounds_here r h.1 ∙ ap (λ p. p.1.rounds) pair ∙ h.0 in
        e ∙ ap Some (sym (ap (λ p. p.0) pair))
        ∙ sym (not_before h.1 (omega (arith, few)) h.4 ∙ enough_found span (rounds_at r) h.1 few span_here)
