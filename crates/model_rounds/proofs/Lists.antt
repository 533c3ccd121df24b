-- Laws of lists: what passes a test, what is taken from the front, and what a function makes of each. Assumes nothing.
use Prim.Native.Nat.{ℕ, zero, suc, ◌≤◌}
use mathlib.Core.Path.{◌≡◌, refl, sym, ap, ◌∙◌}
use mathlib.Core.List.{List, [], ◌∷◌, map}
use mathlib.Core.Bool.{Bool, true, false, cond}
use mathlib.Core.Logic.{inl, inr}
use native.Mathlib.Omega.{arith}
use lib.ListN.{length, take}
use Rattle.semantics.specs.Access.{only}
use Rattle.semantics.specs.Sound.{In, Distinct}

-- those that pass a test
module _ (p : ℕ → Bool) where
  pub only_in : (n : ℕ) (l : List ℕ) → In n l → p n ≡ true → In n (only p l)
  unfolding only
  only_in n [] i h = absurd i
  only_in n (k ∷ l) (inl q) h = rw (ap p (sym q) ∙ h) (inl q)
  only_in n (k ∷ l) (inr i) h = look (p k) (only_in n l i h)
    where
      look : (t : Bool) → In n (only p l) → In n (cond t (k ∷ only p l) (only p l))
      look true j = inr j
      look false j = j

  pub in_only : (n : ℕ) (l : List ℕ) → In n (only p l) → In n l × (p n ≡ true)
  unfolding only
  in_only n [] i = absurd i
  in_only n (k ∷ l) i = look (p k) refl i (in_only n l)
    where
      look :
          (t : Bool) → p k ≡ t → In n (cond t (k ∷ only p l) (only p l)) → (In n (only p l) → In n l × (p n ≡ true))
          → In n (k ∷ l) × (p n ≡ true)
      look true h (inl q) ih = (inl q, ap p q ∙ h)
      look true h (inr j) ih = (inr (ih j).0, (ih j).1)
      look false h j ih = (inr (ih j).0, (ih j).1)

  pub only_distinct : (l : List ℕ) → Distinct l → Distinct (only p l)
  unfolding only
  only_distinct [] d = tt
  only_distinct (k ∷ l) d = look (p k) (only_distinct l d.1)
    where
      look : (t : Bool) → Distinct (only p l) → Distinct (cond t (k ∷ only p l) (only p l))
      look true ih = (λ i. d.0 (in_only k l i).0, ih)
      look false ih = ih

  pub only_fewer : (l : List ℕ) → length (only p l) ≤ length l
  unfolding only
  only_fewer [] = omega arith
  only_fewer (k ∷ l) = look (p k) (only_fewer l)
    where
      look : (t : Bool) → length (only p l) ≤ length l → length (cond t (k ∷ only p l) (only p l)) ≤ suc (length l)
      look true h = omega arith
      look false h = omega arith

module _ {A : Type 0} where
  pub in_some : (a : A) (l : List A) → In a l → 1 ≤ length l
  in_some a [] i = absurd i
  in_some a (x ∷ l) i = omega arith

  pub take_in : (k : ℕ) (a : A) (l : List A) → In a (take k l) → In a l
  take_in zero a l i = absurd i
  take_in (suc k) a [] i = absurd i
  take_in (suc k) a (x ∷ l) (inl q) = inl q
  take_in (suc k) a (x ∷ l) (inr i) = inr (take_in k a l i)

pub take_distinct : (k : ℕ) (l : List ℕ) → Distinct l → Distinct (take k l)
take_distinct zero l d = tt
take_distinct (suc k) [] d = tt
take_distinct (suc k) (n ∷ l) d = (λ i. d.0 (take_in k n l i), take_distinct k l d.1)

module _ {A B : Type 0} (f : A → B) where
  pub in_map : (a : A) (l : List A) → In a l → In (f a) (map f l)
  in_map a [] i = absurd i
  in_map a (x ∷ l) (inl q) = inl (ap f q)
  in_map a (x ∷ l) (inr i) = inr (in_map a l i)

  pub map_in : (b : B) (l : List A) → In b (map f l) → (a : A) × In a l × (b ≡ f a)
  map_in b [] i = absurd i
  map_in b (x ∷ l) (inl q) = (x, inl refl, q)
  map_in b (x ∷ l) (inr i) = let h = map_in b l i in (h.0, inr h.1, h.2)

  pub map_take : (k : ℕ) (l : List A) → map f (take k l) ≡ take k (map f l)
  map_take zero l = refl
  map_take (suc k) [] = refl
  map_take (suc k) (x ∷ l) = ap (λ m. f x ∷ m) (map_take k l)

  -- g undoes f
  pub map_back : (g : B → A) → ((a : A) → g (f a) ≡ a) → (l : List A) → map g (map f l) ≡ l
  map_back g h [] = refl
  map_back g h (x ∷ l) = cons_same (h x) (map_back g h l)
    where
      cons_same : {a b : A} {xs ys : List A} → a ≡ b → xs ≡ ys → a ∷ xs ≡ b ∷ ys
      cons_same p q = cc
