-- Places in the order of their remainders: each has a rank of its own. Assumes nothing.
use Prim.Native.Nat.{ℕ, ◌≤◌, ◌<◌}
use mathlib.Core.Path.{◌≡◌, refl, ◌∙◌}
use mathlib.Core.List.{List}
use mathlib.Core.Bool.{Bool, true, false, ◌&&◌, ◌||◌, false≢true}
use mathlib.Core.Logic.{◌⊎◌, inl, inr, ◌≢◌}
use native.Mathlib.Omega.{arith}
use native.Mathlib.Decide.{ℕ_discrete, dec_lt}
use lib.ListN.{length, get_or}
use lib.Dec.{ltb, eqb}
use borrow.Author.Tests.{ltb-true, lt-ltb, eqb-true, eq-eqb}
use Rattle.bill_shares.specs.Shares.{comes_before, count_below, rank_of}
use Rattle.bill_shares.proofs.Counting.{count_less, count_all, just_so_many}

-- place j comes before place i
abbrev pub Before : List ℕ → ℕ → ℕ → Type 0
Before rs i j = (get_or rs i 0 < get_or rs j 0) ⊎ ((get_or rs i 0 ≡ get_or rs j 0) × (j < i))

module _ (rs : List ℕ) where
  pub before_true : (i j : ℕ) → comes_before rs i j ≡ true → Before rs i j
  unfolding comes_before
  before_true i j h = look (ltb (get_or rs i 0) (get_or rs j 0)) refl h
    where
      look :
          (b : Bool) → ltb (get_or rs i 0) (get_or rs j 0) ≡ b → (b || (eqb (get_or rs i 0) (get_or rs j 0) && ltb j i)) ≡ true → Before rs i j
      look true q h = inl (ltb-true (get_or rs i 0) (get_or rs j 0) q)
      look false q h = both (eqb (get_or rs i 0) (get_or rs j 0)) refl h
        where
          both : (b : Bool) → eqb (get_or rs i 0) (get_or rs j 0) ≡ b → (b && ltb j i) ≡ true → Before rs i j
          both true e h = inr (eqb-true (get_or rs i 0) (get_or rs j 0) e, ltb-true j i h)
          both false e h = absurd (false≢true h)

  pub true_before : (i j : ℕ) → Before rs i j → comes_before rs i j ≡ true
  unfolding comes_before
  true_before i j (inl h) = rw (lt-ltb (get_or rs i 0) (get_or rs j 0) h) refl
  true_before i j (inr h) = rw (eq-eqb (get_or rs i 0) (get_or rs j 0) h.0, lt-ltb j i h.1) (any (ltb (get_or rs i 0) (get_or rs j 0)))
    where
      any : (b : Bool) → (b || true) ≡ true
      any true = refl
      any false = refl

  not_itself : (i : ℕ) → comes_before rs i i ≡ false
  not_itself i = look (comes_before rs i i) refl
    where
      never : Before rs i i → ⊥
      never (inl h) = omega arith
      never (inr h) = omega (arith, h.1)

      look : (b : Bool) → comes_before rs i i ≡ b → comes_before rs i i ≡ false
      look true q = absurd (never (before_true i i q))
      look false q = q

  before_both : (i j k : ℕ) → Before rs i j → Before rs j k → Before rs i k
  before_both i j k (inl a) (inl b) = inl (omega arith)
  before_both i j k (inl a) (inr b) = inl (omega (arith, b.0))
  before_both i j k (inr a) (inl b) = inl (omega (arith, a.0))
  before_both i j k (inr a) (inr b) = inr (a.0 ∙ b.0, omega (arith, a.1, b.1))

  pub one_before : (i j : ℕ) → i ≢ j → Before rs i j ⊎ Before rs j i
  one_before i j ne = sort (dec_lt (get_or rs i 0) (get_or rs j 0)) (dec_lt (get_or rs j 0) (get_or rs i 0)) (dec_lt i j)
    where
      gap : (i < j → ⊥) → Dec (j < i) → j < i
      gap c (yes x) = x
      gap c (no x) = absurd (ne (omega arith))

      sort : Dec (get_or rs i 0 < get_or rs j 0) → Dec (get_or rs j 0 < get_or rs i 0) → Dec (i < j) → Before rs i j ⊎ Before rs j i
      sort (yes a) b c = inl (inl a)
      sort (no a) (yes b) c = inr (inl b)
      sort (no a) (no b) (yes c) = inr (inr (omega arith, c))
      sort (no a) (no b) (no c) = inl (inr (omega arith, gap c (dec_lt j i)))

  -- a place that comes before another has the lower rank
  pub rank_less : (i j : ℕ) → j < length rs → Before rs i j → rank_of rs j < rank_of rs i
  unfolding rank_of
  rank_less i j h b =
      count_less (comes_before rs j) (comes_before rs i) (length rs) j
      (λ k x p. true_before i k (before_both i j k b (before_true j k p)))
      h (not_itself j) (true_before i j b)

  rank_low : (i : ℕ) → i < length rs → rank_of rs i < length rs
  unfolding rank_of
  rank_low i h =
      omega (
        arith,
        count_less (comes_before rs i) (λ _. true) (length rs) i (λ k x p. refl) h (not_itself i) refl,
        count_all (λ _. true) (length rs) (λ k x. refl),
      )

  rank_apart : (i j : ℕ) → i < length rs → j < length rs → rank_of rs i ≡ rank_of rs j → i ≡ j
  rank_apart i j a b q = sort (ℕ_discrete i j)
    where
      clash : Before rs i j ⊎ Before rs j i → ⊥
      clash (inl x) = omega (arith, rank_less i j b x, q)
      clash (inr x) = omega (arith, rank_less j i a x, q)

      sort : Dec (i ≡ j) → i ≡ j
      sort (yes x) = x
      sort (no x) = absurd (clash (one_before i j x))

  -- just k places have a rank below k
  pub ranks_below : (k : ℕ) → k ≤ length rs → count_below (λ i. ltb (rank_of rs i) k) (length rs) ≡ k
  ranks_below = just_so_many (rank_of rs) (length rs) rank_low rank_apart
