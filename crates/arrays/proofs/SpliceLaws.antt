-- The order's edits in the model's words: in a distinct order a splice for a task happens at its place, a removal is such a
-- splice, and the place found is the model's. Assumes nothing.
use Prim.Native.Nat.{ℕ, zero, suc, ◌≤◌, ◌<◌}
use mathlib.Core.Path.{◌≡◌, refl, sym, ap, subst, ◌∙◌}
use mathlib.Core.List.{List, [], ◌∷◌, ◌++◌}
use mathlib.Core.Bool.{Bool, true, false, ◌||◌}
use mathlib.Core.Logic.{inl, inr}
use native.Mathlib.Omega.{arith}
use lib.ListN.{length, take, drop, get_or}
use lib.Dec.{eqb}
use borrow.Author.Tests.{eqb-true, eq-eqb}
use Rattle.semantics.specs.Access.{ahead}
use Rattle.semantics.specs.Call.{among, splice}
use Rattle.semantics.specs.Sound.{In, Distinct}
use Rattle.semantics.proofs.Order.{splice_same, splice_other, splice_absent}
use Rattle.std.specs.Prelude.{Some, None}
use Rattle.std.specs.List.{position_or_len}
use Rattle.std.proofs.lemmas.List.Quantifiers.{position-Some}
use Rattle.std.proofs.lemmas.Bool.Decides.{nat_tests}
use Rattle.arrays.specs.Places.{place_of, without}

getD_in : (xs : List ℕ) (i : ℕ) → i < length xs → In (get_or xs i 0) xs
getD_in [] i h = let z : ⊥ = omega arith in absurd z
getD_in (a ∷ xs) zero h = inl refl
getD_in (a ∷ xs) (suc i) h = inr (getD_in xs i (omega arith))

-- a splice happens at the task's one place
pub splice_at : (n : ℕ) (new xs : List ℕ) (at : ℕ) → Distinct xs → at < length xs → get_or xs at 0 ≡ n
    → splice n new xs ≡ take at xs ++ (new ++ drop (suc at) xs)
splice_at n new [] at d h e = let z : ⊥ = omega arith in absurd z
splice_at n new (k ∷ ks) zero d h e =
    splice_same n k new ks e ∙
    ap (λ l. new ++ l) (splice_absent n new ks (λ i. d.0 (subst (λ x. In x ks) (sym e) i)))
splice_at n new (k ∷ ks) (suc at) d h e =
    splice_other n k new ks (λ q. d.0 (subst (λ x. In x ks) (e ∙ sym q) (getD_in ks at (omega arith)))) ∙
    ap (λ l. k ∷ l) (splice_at n new ks at d.1 (omega arith) e)

pub without_splice : (n : ℕ) (xs : List ℕ) (at : ℕ) → Distinct xs → at < length xs → get_or xs at 0 ≡ n
    → without at xs ≡ splice n [] xs
unfolding without
without_splice n xs at d h e = sym (splice_at n [] xs at d h e)

-- what a found place says of task n in the order xs
pub record Placed (n : ℕ) (xs : List ℕ) (i : ℕ) : Type 0 where
  pub within : i < length xs
  pub there : get_or xs i 0 ≡ n
  pub before : take i xs ≡ ahead n xs
  pub listed : among n xs ≡ true

-- the first n in xs: those before it are ahead of n, and n is among them
first_at : (n : ℕ) (xs : List ℕ) (i : ℕ) → i < length xs → get_or xs i 0 ≡ n → ((k : ℕ) → k < i → eqb (get_or xs k 0) n ≡ false)
    → (take i xs ≡ ahead n xs) × (among n xs ≡ true)
unfolding ahead among
first_at n [] i h e none = absurd (omega arith)
first_at n (k ∷ ks) zero h e none = let t = eq-eqb k n e in (rw t refl, rw t refl)
first_at n (k ∷ ks) (suc i) h e none =
    let f = none 0 (omega arith) in
    let r = first_at n ks i (omega arith) e (λ j b. none (suc j) (omega arith)) in
    (rw f (ap (λ l. k ∷ l) r.0), rw f r.1)

pub placed : (n : ℕ) (xs : List ℕ) (i : ℕ) → place_of n xs ≡ Some i → Placed n xs i
unfolding place_of
placed n xs i e =
    let p = position-Some (λ k. eqb k n) xs i 0 e in
    let there = eqb-true (get_or xs i 0) n p.1 in
    let first = first_at n xs i p.0 there p.2 in
    record { within = p.0; there = there; before = first.0; listed = first.1 }

not_among : (n : ℕ) (xs : List ℕ) → length xs ≤ position_or_len (λ k. eqb k n) xs → among n xs ≡ false
unfolding among
not_among n [] h = refl
not_among n (k ∷ ks) h = by_head (not_among n ks) (eqb k n) refl
  where
    by_head : (length ks ≤ position_or_len (λ i. eqb i n) ks → among n ks ≡ false) → (t : Bool) → eqb k n ≡ t
        → (eqb k n || among n ks) ≡ false
    by_head ih true t = absurd (omega (arith, rw t at h))
    by_head ih false t = rw t (ih (omega (arith, rw t at h)))

pub unplaced : (n : ℕ) (xs : List ℕ) → place_of n xs ≡ None → among n xs ≡ false
unfolding place_of
unplaced n xs e = not_among n xs (grind (arith, nat_tests))
