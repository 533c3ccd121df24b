-- The guards over the whole order are document 01's words on queues: "all ahead of it in that queue have mode 1", "none is
-- ahead", request 107's "when all ahead have mode 3", and request 102's "a job of mode write is ahead". A footprint is a set: the
-- order of the lines that name a location doesn't matter to its mode. Assumes nothing.
use Prim.Native.Nat.{ℕ, zero, suc, ◌+◌, ◌≤◌}
use mathlib.Core.Path.{◌≡◌, refl, sym, ap, subst, ◌∙◌}
use mathlib.Core.List.{List, [], ◌∷◌}
use mathlib.Core.Bool.{Bool, true, false, not, ◌||◌}
use mathlib.Core.Logic.{inl, inr}
use native.Mathlib.Decide.{ℕ_discrete}
use native.Mathlib.Nat.{add-zero, zero-add}
use native.Mathlib.Omega.{arith}
use lib.ListN.{length, get_or}
use lib.Dec.{eqb, eqb-suc-zero}
use borrow.Author.Tests.{eq-eqb, ne_eqb}
use Rattle.semantics.specs.Run.{Run, mode_of, task_of}
use Rattle.semantics.specs.Access.{Access, reads, writes, sums, every, any, only, ahead, queue, may_read, may_write, may_sum, behind_writer, compatible, allowed}
use Rattle.semantics.specs.Footprint.{merged}
use Rattle.semantics.specs.Plan.{needs_from}
use Rattle.semantics.specs.Sound.{In}
use Rattle.semantics.proofs.Order.{every_in, in_every, ahead_self, ahead_other}
use Rattle.semantics.proofs.Modes.{not_zero, write_behind}

only_keep : (p : ℕ → Bool) (k : ℕ) (o : List ℕ) → p k ≡ true → only p (k ∷ o) ≡ k ∷ only p o
unfolding only
only_keep p k o h = rw h refl

only_drop : (p : ℕ → Bool) (k : ℕ) (o : List ℕ) → p k ≡ false → only p (k ∷ o) ≡ only p o
unfolding only
only_drop p k o h = rw h refl

compatible_reading : (m : ℕ) → (m ≡ 0 → ⊥) → compatible m 1 ≡ eqb m 1
unfolding compatible
compatible_reading zero h = absurd (h refl)
compatible_reading (suc zero) h = refl
compatible_reading (suc (suc zero)) h = refl
compatible_reading (suc (suc (suc zero))) h = refl
compatible_reading (suc (suc (suc (suc m)))) h = sym (ne_eqb (suc (suc (suc (suc m)))) 1 (λ q. omega arith))

compatible_summing : (m : ℕ) → (m ≡ 0 → ⊥) → compatible m 3 ≡ eqb m 3
unfolding compatible
compatible_summing zero h = absurd (h refl)
compatible_summing (suc zero) h = refl
compatible_summing (suc (suc zero)) h = refl
compatible_summing (suc (suc (suc zero))) h = refl
compatible_summing (suc (suc (suc (suc m)))) h = sym (ne_eqb (suc (suc (suc (suc m)))) 3 (λ q. omega arith))

-- over any modes of the tasks at one location
module _ (mode : ℕ → ℕ) (n : ℕ) (own : mode n ≡ 0 → ⊥) where
  is_present : (k : ℕ) → (mode k ≡ 0 → ⊥) → not (eqb (mode k) 0) ≡ true
  is_present k h = rw (ne_eqb (mode k) 0 h) refl

  is_absent : (k : ℕ) → mode k ≡ 0 → not (eqb (mode k) 0) ≡ false
  is_absent k h = rw (eq-eqb (mode k) 0 h) refl

  -- a mode that stands behind none and behind tasks of its own kind: read or sum
  shared_words :
      (w : ℕ) → compatible 0 w ≡ true → ((m : ℕ) → (m ≡ 0 → ⊥) → compatible m w ≡ eqb m w) → (o : List ℕ)
      → every (λ k. compatible (mode k) w) (ahead n o) ≡ every (λ k. eqb (mode k) w) (ahead n (only (λ k. not (eqb (mode k) 0)) o))
  shared_words w free alike [] = unfold ahead only every in refl
  shared_words w free alike (k ∷ o) = sort (shared_words w free alike o) (ℕ_discrete k n) (ℕ_discrete (mode k) 0)
    where
      queued : ℕ → Bool
      queued j = not (eqb (mode j) 0)

      same_mode : ℕ → Bool
      same_mode j = eqb (mode j) w

      sort :
          every (λ k. compatible (mode k) w) (ahead n o) ≡ every same_mode (ahead n (only queued o)) → Dec (k ≡ n) → Dec (mode k ≡ 0)
          → every (λ k. compatible (mode k) w) (ahead n (k ∷ o)) ≡ every same_mode (ahead n (only queued (k ∷ o)))
      sort ih (yes p) z =
          rw (ahead_self n k o p, only_keep queued k o (is_present k (λ q. own (ap mode (sym p) ∙ q))), ahead_self n k (only queued o) p)
          (unfold every in refl)
      sort ih (no p) (yes z) =
          rw (ahead_other n k o p, only_drop queued k o (is_absent k z)) (unfold every in rw (z, free) ih)
      sort ih (no p) (no z) =
          rw (ahead_other n k o p, only_keep queued k o (is_present k z), ahead_other n k (only queued o) p)
          (unfold every in rw (alike (mode k) z, ih) refl)

  write_words :
      (o : List ℕ)
      → every (λ k. compatible (mode k) 2) (ahead n o) ≡ eqb (length (ahead n (only (λ k. not (eqb (mode k) 0)) o))) 0
  write_words [] = unfold ahead only every in refl
  write_words (k ∷ o) = sort (write_words o) (ℕ_discrete k n) (ℕ_discrete (mode k) 0)
    where
      queued : ℕ → Bool
      queued j = not (eqb (mode j) 0)

      sort :
          every (λ k. compatible (mode k) 2) (ahead n o) ≡ eqb (length (ahead n (only queued o))) 0 → Dec (k ≡ n) → Dec (mode k ≡ 0)
          → every (λ k. compatible (mode k) 2) (ahead n (k ∷ o)) ≡ eqb (length (ahead n (only queued (k ∷ o)))) 0
      sort ih (yes p) z =
          rw (ahead_self n k o p, only_keep queued k o (is_present k (λ q. own (ap mode (sym p) ∙ q))), ahead_self n k (only queued o) p)
          (unfold every in refl)
      sort ih (no p) (yes z) =
          rw (ahead_other n k o p, only_drop queued k o (is_absent k z)) (unfold every compatible in rw z ih)
      sort ih (no p) (no z) =
          rw (ahead_other n k o p, only_keep queued k o (is_present k z), ahead_other n k (only queued o) p)
          (unfold every in rw (write_behind (mode k) z, eqb-suc-zero (length (ahead n (only queued o)))) refl)

  writer_words :
      (o : List ℕ)
      → any (λ k. eqb (mode k) 2) (ahead n (only (λ k. not (eqb (mode k) 0)) o)) ≡ any (λ k. eqb (mode k) 2) (ahead n o)
  writer_words [] = unfold ahead only any in refl
  writer_words (k ∷ o) = sort (writer_words o) (ℕ_discrete k n) (ℕ_discrete (mode k) 0)
    where
      queued : ℕ → Bool
      queued j = not (eqb (mode j) 0)

      writing : ℕ → Bool
      writing j = eqb (mode j) 2

      sort :
          any writing (ahead n (only queued o)) ≡ any writing (ahead n o) → Dec (k ≡ n) → Dec (mode k ≡ 0)
          → any writing (ahead n (only queued (k ∷ o))) ≡ any writing (ahead n (k ∷ o))
      sort ih (yes p) z =
          rw (ahead_self n k o p, only_keep queued k o (is_present k (λ q. own (ap mode (sym p) ∙ q))), ahead_self n k (only queued o) p)
          (unfold any in refl)
      sort ih (no p) (yes z) = rw (ahead_other n k o p, only_drop queued k o (is_absent k z)) (unfold any in rw z ih)
      sort ih (no p) (no z) =
          rw (ahead_other n k o p, only_keep queued k o (is_present k z), ahead_other n k (only queued o) p)
          (unfold any in ap (λ b. writing k || b) ih)

module _ (r : Run) (n a : ℕ) (own : mode_of (task_of r n) a ≡ 0 → ⊥) where
  -- "a job of mode write is ahead", by the whole order
  pub writer_wording : behind_writer r n a ≡ any (λ k. eqb (mode_of (task_of r k) a) 2) (ahead n r.order)
  unfolding behind_writer queue
  writer_wording = writer_words (λ k. mode_of (task_of r k) a) n own r.order

  pub read_wording : allowed r n (reads a) ≡ may_read r n a
  unfolding allowed may_read queue
  read_wording = shared_words (λ k. mode_of (task_of r k) a) n own 1 (unfold compatible in refl) compatible_reading r.order

  pub write_wording : allowed r n (writes a) ≡ may_write r n a
  unfolding allowed may_write queue
  write_wording = write_words (λ k. mode_of (task_of r k) a) n own r.order

  pub sum_wording : allowed r n (sums a) ≡ may_sum r n a
  unfolding allowed may_sum queue
  sum_wording = shared_words (λ k. mode_of (task_of r k) a) n own 3 (unfold compatible in refl) compatible_summing r.order

-- what a start needs: each location with a mode that isn't 0, in that mode
needs_complete :
    (ms : List ℕ) (b a m : ℕ) → get_or ms a 0 ≡ suc m → In (record { location = b + a; mode = suc m }) (needs_from b ms)
unfolding needs_from
needs_complete [] b a m q = let bad : ⊥ = omega arith in absurd bad
needs_complete (zero ∷ ms) b zero m q = let bad : ⊥ = omega arith in absurd bad
needs_complete (zero ∷ ms) b (suc a) m q =
    let shift : suc b + a ≡ b + suc a = omega arith in
    subst (λ x. In (record { location = x; mode = suc m }) (needs_from (suc b) ms)) shift (needs_complete ms (suc b) a m q)
needs_complete (suc x ∷ ms) b zero m q = inl (λ i. record { location = add-zero b i; mode = sym q i })
needs_complete (suc x ∷ ms) b (suc a) m q =
    let shift : suc b + a ≡ b + suc a = omega arith in
    inr (subst (λ x. In (record { location = x; mode = suc m }) (needs_from (suc b) ms)) shift (needs_complete ms (suc b) a m q))

-- an access that a start needs
abbrev pub Needed : List ℕ → ℕ → Access → Type 0
Needed ms b g = (a : ℕ) × (g.location ≡ b + a) × (g.mode ≡ get_or ms a 0) × (g.mode ≡ 0 → ⊥)

needs_later : (m : ℕ) (ms : List ℕ) (b : ℕ) (g : Access) → Needed ms (suc b) g → Needed (m ∷ ms) b g
needs_later m ms b g h = (suc h.0, h.1 ∙ omega arith, h.2, h.3)

pub needs_sound : (ms : List ℕ) (b : ℕ) (g : Access) → In g (needs_from b ms) → Needed ms b g
unfolding needs_from
needs_sound [] b g i = absurd i
needs_sound (zero ∷ ms) b g i = needs_later 0 ms b g (needs_sound ms (suc b) g i)
needs_sound (suc m ∷ ms) b g (inl q) =
    (0, ap (λ x. x.location) q ∙ sym (add-zero b), ap (λ x. x.mode) q, λ z. not_zero m (sym (ap (λ x. x.mode) q) ∙ z))
needs_sound (suc m ∷ ms) b g (inr i) = needs_later (suc m) ms b g (needs_sound ms (suc b) g i)

-- "the job may read each entry of mode 1 and write each of mode 2"; request 107: "may start as far as that entry goes" where it
-- may sum each of mode 3
abbrev pub MayStart : Run → ℕ → Type 0
MayStart r n =
    (a : ℕ)
    → (mode_of (task_of r n) a ≡ 1 → may_read r n a ≡ true) × (mode_of (task_of r n) a ≡ 2 → may_write r n a ≡ true)
    × (mode_of (task_of r n) a ≡ 3 → may_sum r n a ≡ true)

module _ (r : Run) (n : ℕ) where
  pub start_wording : every (allowed r n) (needs_from 0 (task_of r n).modes) ≡ true → MayStart r n
  start_wording h a = (
    λ q. sym (read_wording r n a (queued 0 q)) ∙ need 0 q,
    λ q. sym (write_wording r n a (queued 1 q)) ∙ need 1 q,
    λ q. sym (sum_wording r n a (queued 2 q)) ∙ need 2 q,
  )
    where
      queued : (m : ℕ) → mode_of (task_of r n) a ≡ suc m → mode_of (task_of r n) a ≡ 0 → ⊥
      queued m p q = omega arith

      need : (m : ℕ) → mode_of (task_of r n) a ≡ suc m → allowed r n (record { location = a; mode = suc m }) ≡ true
      need m q =
          every_in (allowed r n) (record { location = a; mode = suc m }) (needs_from 0 (task_of r n).modes) h
          (subst (λ x. In (record { location = x; mode = suc m }) (needs_from 0 (task_of r n).modes)) (zero-add a)
          (needs_complete (task_of r n).modes 0 a m q))

  pub wording_starts :
      ((a : ℕ) → mode_of (task_of r n) a ≤ 3) → MayStart r n
      → every (allowed r n) (needs_from 0 (task_of r n).modes) ≡ true
  wording_starts most h = in_every (allowed r n) (needs_from 0 (task_of r n).modes) each
    where
      sort :
          (a m : ℕ) → mode_of (task_of r n) a ≡ m → (m ≡ 0 → ⊥) → m ≤ 3
          → allowed r n (record { location = a; mode = m }) ≡ true
      sort a zero q z l = absurd (z refl)
      sort a (suc zero) q z l = read_wording r n a (λ p. z (sym q ∙ p)) ∙ (h a).0 q
      sort a (suc (suc zero)) q z l = write_wording r n a (λ p. z (sym q ∙ p)) ∙ (h a).1 q
      sort a (suc (suc (suc zero))) q z l = sum_wording r n a (λ p. z (sym q ∙ p)) ∙ (h a).2 q
      sort a (suc (suc (suc (suc m)))) q z l = let bad : ⊥ = omega arith in absurd bad

      each : (g : Access) → In g (needs_from 0 (task_of r n).modes) → allowed r n g ≡ true
      each g i =
          let k = needs_sound (task_of r n).modes 0 g i in
          let at : g.location ≡ k.0 = k.1 ∙ zero-add k.0 in
          let mode : mode_of (task_of r n) g.location ≡ g.mode = ap (mode_of (task_of r n)) at ∙ sym k.2 in
          sort g.location g.mode mode k.3 (subst (λ x. x ≤ 3) mode (most g.location))

-- request 106: one common mode, else write, whichever line is first
merged_common : (m : ℕ) → merged m m ≡ m
unfolding merged
merged_common zero = refl
merged_common (suc m) = rw (eq-eqb m m refl) refl

merged_differing : (e m : ℕ) → (e ≡ m → ⊥) → merged (suc e) (suc m) ≡ 2
unfolding merged
merged_differing e m h = rw (ne_eqb e m h) refl

merged_with_none : (m : ℕ) → merged m 0 ≡ m
unfolding merged
merged_with_none zero = refl
merged_with_none (suc m) = refl

pub merged_swap : (e m : ℕ) → merged e m ≡ merged m e
merged_swap zero m = unfold merged in sym (merged_with_none m)
merged_swap (suc e) zero = unfold merged in refl
merged_swap (suc e) (suc m) = sort (ℕ_discrete e m)
  where
    sort : Dec (e ≡ m) → merged (suc e) (suc m) ≡ merged (suc m) (suc e)
    sort (yes q) = subst (λ k. merged (suc e) (suc k) ≡ merged (suc k) (suc e)) q refl
    sort (no q) = merged_differing e m q ∙ sym (merged_differing m e (λ x. q (sym x)))

-- with write it is write
merged_write : (m : ℕ) → merged 2 m ≡ 2
merged_write zero = merged_with_none 2
merged_write (suc m) = sort (ℕ_discrete 1 m)
  where
    sort : Dec (1 ≡ m) → merged 2 (suc m) ≡ 2
    sort (yes q) = subst (λ k. merged 2 (suc k) ≡ 2) q (merged_common 2)
    sort (no q) = merged_differing 1 m q

-- two that differ, and one more
merged_three : (e m k : ℕ) → (e ≡ m → ⊥) → merged (merged (suc e) (suc m)) (suc k) ≡ 2
merged_three e m k h = ap (λ x. merged x (suc k)) (merged_differing e m h) ∙ merged_write (suc k)

pub merged_order : (e m k : ℕ) → merged (merged e m) k ≡ merged (merged e k) m
merged_order zero m k = unfold merged in merged_swap m k
merged_order (suc e) zero k =
    ap (λ x. merged x k) (merged_with_none (suc e)) ∙ sym (merged_with_none (merged (suc e) k))
merged_order (suc e) (suc m) zero =
    merged_with_none (merged (suc e) (suc m)) ∙ ap (λ x. merged x (suc m)) (sym (merged_with_none (suc e)))
merged_order (suc e) (suc m) (suc k) = sort (ℕ_discrete e m) (ℕ_discrete e k)
  where
    last : (i j : ℕ) → e ≡ i → (e ≡ j → ⊥) → merged (merged (suc e) (suc i)) (suc j) ≡ 2
    last i j q h =
        ap (λ x. merged (merged (suc e) (suc x)) (suc j)) (sym q) ∙ ap (λ x. merged x (suc j)) (merged_common (suc e)) ∙
        merged_differing e j h

    sort : Dec (e ≡ m) → Dec (e ≡ k) → merged (merged (suc e) (suc m)) (suc k) ≡ merged (merged (suc e) (suc k)) (suc m)
    sort (yes p) (yes q) =
        ap (λ x. merged (merged (suc e) (suc x)) (suc k)) (sym p ∙ q) ∙
        ap (λ x. merged (merged (suc e) (suc k)) (suc x)) (sym q ∙ p)
    sort (yes p) (no q) = last m k p q ∙ sym (merged_three e k m q)
    sort (no p) (yes q) = merged_three e m k p ∙ sym (last k m q p)
    sort (no p) (no q) = merged_three e m k p ∙ sym (merged_three e k m q)
