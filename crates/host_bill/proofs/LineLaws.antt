-- The lines of the wards, one for each number, weight and pence beside each other. Assumes nothing.
use Rattle.std.proofs.Common.{ℕ, ◌≤◌, ◌≡◌, refl, ap, List, [], ◌∷◌, ◌++◌, Iter, arith, length}
use Rattle.std.specs.List.{zip}
use Rattle.std.specs.Slice.Iter.{iter_rest}
use Rattle.std.specs.declared.iter.Zip.{Zip}
use Rattle.std.specs.Iterator.Adapters.{zip_first, zip_second}
use Rattle.std.proofs.iter.Yields.{fronts}
use Rattle.std.proofs.lemmas.Iterator.{YieldsList, YieldsList-from_slice, YieldsList-from_zip, zips}
use Rattle.std.proofs.lemmas.Slice.Zip.{length-zip}
use Rattle.tasklist.specs.Encode.{joined}
use Rattle.host_bill.specs.Lines.{job_word, told, ward_lines}

-- a ward's number and weight, and its pence
abbrev pub Ward : Type 0
Ward = (ℕ × ℕ) × ℕ

abbrev pub ward_line : Ward → List ℕ
ward_line w = told job_word w.0.0 w.0.1 w.1

-- each beside the others
abbrev pub beside : List ℕ → List ℕ → List ℕ → List Ward
beside numbers weights pence = zip (zip numbers weights) pence

pub lines_joined : (numbers weights pence : List ℕ) → joined ward_line (beside numbers weights pence) ≡ ward_lines numbers weights pence
unfolding joined ward_lines
lines_joined [] weights pence = refl
lines_joined (n ∷ ns) [] pence = refl
lines_joined (n ∷ ns) (w ∷ ws) [] = refl
lines_joined (n ∷ ns) (w ∷ ws) (p ∷ ps) = ap (λ l. told job_word n w p ++ l) (lines_joined ns ws ps)

pub beside_most : (numbers weights pence : List ℕ) → length (beside numbers weights pence) ≤ length numbers
beside_most numbers weights pence = omega (arith, length-zip (zip numbers weights) pence, length-zip numbers weights)

-- what the three slices yield together
pub yields_beside :
    (numbers weights pence : List ℕ) (s : Zip (Zip (Iter ℕ) (Iter ℕ)) (Iter ℕ)) → iter_rest (zip_first (zip_first s)) ≡ numbers
    → iter_rest (zip_second (zip_first s)) ≡ weights → iter_rest (zip_second s) ≡ pence
    → YieldsList (zips (zips fronts fronts) fronts) (λ x. ((x.0.0.now, x.0.1.now), x.1.now)) s (beside numbers weights pence)
yields_beside numbers weights pence s a b c =
    YieldsList-from_zip (YieldsList-from_zip (YieldsList-from_slice numbers a) (YieldsList-from_slice weights b)) (YieldsList-from_slice pence c)
