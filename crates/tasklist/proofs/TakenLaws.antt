-- What a field that was taken tells: it was whole, and it passed its test.
use Prim.Native.Nat.{ℕ, ◌≤◌}
use mathlib.Core.Path.{◌≡◌, refl, ◌∙◌}
use mathlib.Core.List.{List}
use mathlib.Core.Bool.{Bool, true, false, cond, ◌&&◌}
use Rattle.std.specs.Prelude.{Option, Some, None}
use native.Mathlib.Omega.{arith}
use lib.ListN.{length, take, drop, get_or}
use lib.Dec.{leb}
use borrow.Author.Tests.{leb-true}
use Rattle.tasklist.specs.Fields.{Taken, bad, took, and_then, tested, field, only_if, tag, in_range, number, counted}

pub absurd_bad : {A : Type 0} {Goal : Type 0} (k : ℕ) (a : A) (b : List ℕ) → bad k ≡ took a b → Goal
absurd_bad k a b e = let z : ◌≡◌ {A = ℕ} 0 1 = cc in let y : ⊥ = omega arith in absurd y

pub both_true : (a b : Bool) → (a && b) ≡ true → (a ≡ true) × (b ≡ true)
both_true true b e = (refl, e)
both_true false b e = let z : ◌≡◌ {A = ℕ} 0 1 = cc in let y : ⊥ = omega arith in absurd y

pub record Passed (A : Type 0) (t : Bool) (a x : A) : Type 0 where
  pub test : t ≡ true
  pub value : a ≡ x

pub only_if_some : {A : Type 0} (t : Bool) (a x : A) → only_if t a ≡ Some x → Passed A t a x
only_if_some true a x e = record { test = refl; value = cc }
only_if_some false a x e = let z : ◌≡◌ {A = ℕ} 0 1 = cc in let y : ⊥ = omega arith in absurd y

-- a taken field: its n bytes were there, its test gave what was taken, and the rest stands behind
pub record FieldTaken (A : Type 0) (n : ℕ) (test : List ℕ → Option A) (b : List ℕ) (a : A) (rest : List ℕ) : Type 0 where
  pub whole : n ≤ length b
  pub passed : test (take n b) ≡ Some a
  pub behind : drop n b ≡ rest

pub field_taken : {A : Type 0} (n k : ℕ) (test : List ℕ → Option A) (b : List ℕ) (a : A) (rest : List ℕ)
    → field n k test b ≡ took a rest → FieldTaken A n test b a rest
unfolding field
field_taken {A} n k test b a rest e = by_length (leb n (length b)) refl e
  where
    by_test : n ≤ length b → (o : Option A) → test (take n b) ≡ o → tested k (drop n b) o ≡ took a rest → FieldTaken A n test b a rest
    by_test w None q f = absurd_bad k a rest f
    by_test w (Some x) q f = record { whole = w; passed = q ∙ cc; behind = cc }

    by_length : (t : Bool) → leb n (length b) ≡ t → cond t (tested k (drop n b) (test (take n b))) (bad 1) ≡ took a rest → FieldTaken A n test b a rest
    by_length true q f = by_test (leb-true n (length b) q) (test (take n b)) refl f
    by_length false q f = absurd_bad 1 a rest f

-- two things taken one behind the other
pub record Split (A B : Type 0) (t : Taken A) (next : A → List ℕ → Taken B) (b : B) (rest : List ℕ) : Type 0 where
  pub first : A
  pub between : List ℕ
  pub took_first : t ≡ took first between
  pub took_next : next first between ≡ took b rest

pub split : {A B : Type 0} (t : Taken A) (next : A → List ℕ → Taken B) (b : B) (rest : List ℕ)
    → and_then t next ≡ took b rest → Split A B t next b rest
split (bad k) next b rest e = absurd_bad k b rest e
split (took a between) next b rest e = record { first = a; between = between; took_first = refl; took_next = e }

pub record Number (low high n : ℕ) : Type 0 where
  pub least : low ≤ n
  pub most : n ≤ high

pub number_range : (low high k : ℕ) (b : List ℕ) (n : ℕ) (rest : List ℕ) → number low high k b ≡ took n rest → Number low high n
unfolding number in_range
number_range low high k b n rest e =
    let f = field_taken 1 k (in_range low high) b n rest e in
    let x = get_or (take 1 b) 0 0 in
    let p = only_if_some (leb low x && leb x high) x n f.passed in
    let q = both_true (leb low x) (leb x high) p.test in
    record { least = rw p.value at (leb-true low x q.0); most = rw p.value at (leb-true x high q.1) }

pub counted_most : (second most k : ℕ) (b : List ℕ) (n : ℕ) (rest : List ℕ) → counted second most k b ≡ took n rest → n ≤ most
unfolding counted
counted_most second most k b n rest e =
    let s = split (tag second b) (λ _ b₁. number 0 most k b₁) n rest e in
    (number_range 0 most k s.between n rest s.took_next).most
