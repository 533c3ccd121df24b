-- Laws of the two tables of modes, and of what a footprint grants: a child's modes are under its spawner's. Assumes nothing.
use Prim.Native.Nat.{ℕ, zero, suc, ◌<◌}
use mathlib.Core.Path.{◌≡◌, refl, sym, ap, subst, ◌∙◌}
use mathlib.Core.List.{List, [], ◌∷◌}
use mathlib.Core.Bool.{true, false, cond, false≢true}
use mathlib.Core.Logic.{◌⊎◌, inl, inr}
use native.Mathlib.Decide.{ℕ_discrete, dec_lt}
use native.Mathlib.Omega.{arith}
use lib.ListN.{length, get_or, set, replicate}
use lib.Dec.{eqb}
use lib.Seq.{get_or-set_same, get_or-set_other, set_out}
use borrow.Author.Tests.{eq-eqb, ne_eqb}
use Rattle.tasklist.specs.declared.Line.{Line}
use Rattle.semantics.specs.Run.{Task, mode_of, no_modes}
use Rattle.semantics.specs.Access.{Access, compatible, access_fault}
use Rattle.semantics.specs.Footprint.{Grant, denied, granted, merged, unless_denied, grant, child_modes, all_targets}

pub not_zero : (n : ℕ) → suc n ≡ 0 → ⊥
not_zero n h = omega arith

-- what stands beside any mode stands beside none
pub compatible_none : (m w : ℕ) → compatible m w ≡ true → compatible 0 w ≡ true
unfolding compatible
compatible_none m zero h = refl
compatible_none m (suc zero) h = refl
compatible_none m (suc (suc zero)) h = refl
compatible_none m (suc (suc (suc zero))) h = refl
compatible_none zero (suc (suc (suc (suc w)))) h = h
compatible_none (suc zero) (suc (suc (suc (suc w)))) h = h
compatible_none (suc (suc zero)) (suc (suc (suc (suc w)))) h = h
compatible_none (suc (suc (suc zero))) (suc (suc (suc (suc w)))) h = h
compatible_none (suc (suc (suc (suc m)))) (suc (suc (suc (suc w)))) h = h

-- a task of mode write lets nothing pass
pub write_ahead : (w : ℕ) → (w ≡ 0 → ⊥) → compatible 2 w ≡ false
unfolding compatible
write_ahead zero h = absurd (h refl)
write_ahead (suc zero) h = refl
write_ahead (suc (suc zero)) h = refl
write_ahead (suc (suc (suc zero))) h = refl
write_ahead (suc (suc (suc (suc w)))) h = refl

-- a mode that stands beside asking for nothing stands beside all that write does
below_write : (m w : ℕ) → compatible m 0 ≡ true → compatible 2 w ≡ true → compatible m w ≡ true
below_write m zero z h = z
below_write m (suc w) z h = absurd (false≢true (sym (write_ahead (suc w) (not_zero w)) ∙ h))

-- a mode beside which reading stands, none aside, is read; one beside which summing stands is sum
under_read : (e : ℕ) → compatible (suc e) 1 ≡ true → e ≡ 0
under_read zero h = refl
under_read (suc zero) h = absurd (false≢true (unfold compatible in h))
under_read (suc (suc zero)) h = absurd (false≢true (unfold compatible in h))
under_read (suc (suc (suc e))) h = absurd (false≢true (unfold compatible in h))

under_sum : (e : ℕ) → compatible (suc e) 3 ≡ true → e ≡ 2
under_sum zero h = absurd (false≢true (unfold compatible in h))
under_sum (suc zero) h = absurd (false≢true (unfold compatible in h))
under_sum (suc (suc zero)) h = refl
under_sum (suc (suc (suc e))) h = absurd (false≢true (unfold compatible in h))

-- a mode that the own mode grants is under it
pub granted_under : (o m w : ℕ) → access_fault o m ≡ 0 → compatible o w ≡ true → compatible m w ≡ true
granted_under zero zero w f h = h
granted_under zero (suc zero) w f h = absurd (not_zero 0 (unfold access_fault in f))
granted_under zero (suc (suc zero)) w f h = absurd (not_zero 0 (unfold access_fault in f))
granted_under zero (suc (suc (suc zero))) w f h = absurd (not_zero 0 (unfold access_fault in f))
granted_under zero (suc (suc (suc (suc m)))) w f h = absurd (not_zero 0 (unfold access_fault in f))
granted_under (suc zero) zero w f h = compatible_none 1 w h
granted_under (suc zero) (suc zero) w f h = h
granted_under (suc zero) (suc (suc zero)) w f h = absurd (not_zero 1 (unfold access_fault in f))
granted_under (suc zero) (suc (suc (suc zero))) w f h = absurd (not_zero 1 (unfold access_fault in f))
granted_under (suc zero) (suc (suc (suc (suc m)))) w f h = absurd (not_zero 0 (unfold access_fault in f))
granted_under (suc (suc zero)) zero w f h = below_write 0 w (unfold compatible in refl) h
granted_under (suc (suc zero)) (suc zero) w f h = below_write 1 w (unfold compatible in refl) h
granted_under (suc (suc zero)) (suc (suc zero)) w f h = h
granted_under (suc (suc zero)) (suc (suc (suc zero))) w f h = below_write 3 w (unfold compatible in refl) h
granted_under (suc (suc zero)) (suc (suc (suc (suc m)))) w f h = absurd (not_zero 0 (unfold access_fault in f))
granted_under (suc (suc (suc zero))) zero w f h = compatible_none 3 w h
granted_under (suc (suc (suc zero))) (suc zero) w f h = absurd (not_zero 1 (unfold access_fault in f))
granted_under (suc (suc (suc zero))) (suc (suc zero)) w f h = absurd (not_zero 1 (unfold access_fault in f))
granted_under (suc (suc (suc zero))) (suc (suc (suc zero))) w f h = h
granted_under (suc (suc (suc zero))) (suc (suc (suc (suc m)))) w f h = absurd (not_zero 0 (unfold access_fault in f))
granted_under (suc (suc (suc (suc o)))) m w f h = absurd (not_zero 0 (unfold access_fault in f))

-- Two modes under the own one, both there and different, are asked for of a writer only.
differing_under :
    (o e m w : ℕ) → access_fault o (suc m) ≡ 0 → ((v : ℕ) → compatible o v ≡ true → compatible (suc e) v ≡ true)
    → (e ≡ m → ⊥) → compatible o w ≡ true → compatible 2 w ≡ true
differing_under zero e zero w f u ne h = absurd (not_zero 0 (unfold access_fault in f))
differing_under zero e (suc zero) w f u ne h = absurd (not_zero 0 (unfold access_fault in f))
differing_under zero e (suc (suc zero)) w f u ne h = absurd (not_zero 0 (unfold access_fault in f))
differing_under zero e (suc (suc (suc m))) w f u ne h = absurd (not_zero 0 (unfold access_fault in f))
differing_under (suc zero) e zero w f u ne h = absurd (ne (under_read e (u 1 (unfold compatible in refl))))
differing_under (suc zero) e (suc zero) w f u ne h = absurd (not_zero 1 (unfold access_fault in f))
differing_under (suc zero) e (suc (suc zero)) w f u ne h = absurd (not_zero 1 (unfold access_fault in f))
differing_under (suc zero) e (suc (suc (suc m))) w f u ne h = absurd (not_zero 0 (unfold access_fault in f))
differing_under (suc (suc zero)) e m w f u ne h = h
differing_under (suc (suc (suc zero))) e zero w f u ne h = absurd (not_zero 1 (unfold access_fault in f))
differing_under (suc (suc (suc zero))) e (suc zero) w f u ne h = absurd (not_zero 1 (unfold access_fault in f))
differing_under (suc (suc (suc zero))) e (suc (suc zero)) w f u ne h = absurd (ne (under_sum e (u 3 (unfold compatible in refl))))
differing_under (suc (suc (suc zero))) e (suc (suc (suc m))) w f u ne h = absurd (not_zero 0 (unfold access_fault in f))
differing_under (suc (suc (suc (suc o)))) e m w f u ne h = absurd (not_zero 0 (unfold access_fault in f))

-- a merged mode is under the own one where the mode so far and the line's are
pub merged_under :
    (o e m w : ℕ) → access_fault o m ≡ 0 → ((v : ℕ) → compatible o v ≡ true → compatible e v ≡ true)
    → compatible o w ≡ true → compatible (merged e m) w ≡ true
unfolding merged
merged_under o zero m w f u h = granted_under o m w f h
merged_under o (suc e) zero w f u h = u w h
merged_under o (suc e) (suc m) w f u h = go (ℕ_discrete e m)
  where
    go : Dec (e ≡ m) → compatible (cond (eqb e m) (suc m) 2) w ≡ true
    go (yes q) = rw (eq-eqb e m q) (granted_under o (suc m) w f h)
    go (no q) = rw (ne_eqb e m q) (differing_under o e m w f u q h)

-- who may load, store and sum
pub only_readers : (o : ℕ) → access_fault o 1 ≡ 0 → (o ≡ 1) ⊎ (o ≡ 2)
only_readers zero f = absurd (not_zero 0 (unfold access_fault in f))
only_readers (suc zero) f = inl refl
only_readers (suc (suc zero)) f = inr refl
only_readers (suc (suc (suc zero))) f = absurd (not_zero 1 (unfold access_fault in f))
only_readers (suc (suc (suc (suc o)))) f = absurd (not_zero 0 (unfold access_fault in f))

pub only_writers : (o : ℕ) → access_fault o 2 ≡ 0 → o ≡ 2
only_writers zero f = absurd (not_zero 0 (unfold access_fault in f))
only_writers (suc zero) f = absurd (not_zero 1 (unfold access_fault in f))
only_writers (suc (suc zero)) f = refl
only_writers (suc (suc (suc zero))) f = absurd (not_zero 1 (unfold access_fault in f))
only_writers (suc (suc (suc (suc o)))) f = absurd (not_zero 0 (unfold access_fault in f))

pub only_summers : (o : ℕ) → access_fault o 3 ≡ 0 → (o ≡ 2) ⊎ (o ≡ 3)
only_summers zero f = absurd (not_zero 0 (unfold access_fault in f))
only_summers (suc zero) f = absurd (not_zero 1 (unfold access_fault in f))
only_summers (suc (suc zero)) f = inl refl
only_summers (suc (suc (suc zero))) f = inr refl
only_summers (suc (suc (suc (suc o)))) f = absurd (not_zero 0 (unfold access_fault in f))

-- a task of any mode ahead holds a writer back
pub write_behind : (m : ℕ) → (m ≡ 0 → ⊥) → compatible m 2 ≡ false
unfolding compatible
write_behind zero h = absurd (h refl)
write_behind (suc zero) h = refl
write_behind (suc (suc zero)) h = refl
write_behind (suc (suc (suc zero))) h = refl
write_behind (suc (suc (suc (suc m)))) h = refl

-- a task that may sum, by its own mode o, and one that may load hold each other back
pub sum_excludes_loading :
    (o p : ℕ) → access_fault o 3 ≡ 0 → access_fault p 1 ≡ 0 → (compatible o 1 ≡ false) × (compatible p o ≡ false)
unfolding compatible
sum_excludes_loading o p f g = sort (only_summers o f) (only_readers p g)
  where
    sort : (o ≡ 2) ⊎ (o ≡ 3) → (p ≡ 1) ⊎ (p ≡ 2) → (compatible o 1 ≡ false) × (compatible p o ≡ false)
    sort (inl x) (inl y) = rw (x, y) (refl, refl)
    sort (inl x) (inr y) = rw (x, y) (refl, refl)
    sort (inr x) (inl y) = rw (x, y) (refl, refl)
    sort (inr x) (inr y) = rw (x, y) (refl, refl)

-- these modes are under the task's: what stands beside the task's stands beside them
abbrev pub Under : Task → List ℕ → Type 0
Under t ms = (a w : ℕ) → compatible (mode_of t a) w ≡ true → compatible (get_or ms a 0) w ≡ true

getD_zeros : (n a : ℕ) → ◌≡◌ {A = ℕ} (get_or (replicate n 0) a 0) 0
getD_zeros zero a = refl
getD_zeros (suc n) zero = refl
getD_zeros (suc n) (suc a) = getD_zeros n a

pub none_at : (a : ℕ) → get_or no_modes a 0 ≡ 0
unfolding no_modes
none_at a = getD_zeros 64 a

no_modes_under : (t : Task) → Under t no_modes
no_modes_under t a w h = rw (none_at a) (compatible_none (mode_of t a) w h)

pub getD_set_cases :
    {A : Type 0} (l : List A) (i : ℕ) (x : A) (j : ℕ) (d : A)
    → (get_or (set l i x) j d ≡ get_or l j d) ⊎ ((j ≡ i) × (get_or (set l i x) j d ≡ x))
getD_set_cases l i x j d = go (ℕ_discrete j i) (dec_lt i (length l))
  where
    go : Dec (j ≡ i) → Dec (i < length l) → (get_or (set l i x) j d ≡ get_or l j d) ⊎ ((j ≡ i) × (get_or (set l i x) j d ≡ x))
    go (no q) h = inl (get_or-set_other l i j x d q)
    go (yes q) (yes h) = inr (q, subst (λ k. get_or (set l i x) k d ≡ x) (sym q) (get_or-set_same l i x d h))
    go (yes q) (no h) = inl (ap (λ s. get_or s j d) (set_out l i x (omega arith)))

set_under :
    (t : Task) (ms : List ℕ) (g : Access) → Under t ms → access_fault (mode_of t g.location) g.mode ≡ 0
    → Under t (set ms g.location (merged (get_or ms g.location 0) g.mode))
set_under t ms g u f a w h = go (getD_set_cases ms g.location mode a 0)
  where
    mode : ℕ
    mode = merged (get_or ms g.location 0) g.mode

    after : List ℕ
    after = set ms g.location mode

    go :
        (get_or after a 0 ≡ get_or ms a 0) ⊎ ((a ≡ g.location) × (get_or after a 0 ≡ mode))
        → compatible (get_or after a 0) w ≡ true
    go (inl q) = subst (λ m. compatible m w ≡ true) (sym q) (u a w h)
    go (inr q) =
        subst (λ m. compatible m w ≡ true) (sym q.1)
        (merged_under (mode_of t g.location) (get_or ms g.location 0) g.mode w f (u g.location)
        (subst (λ k. compatible (mode_of t k) w ≡ true) q.0 h))

-- what a grant has of the modes it gives
abbrev pub GrantUnder : Task → Grant → Type 0
GrantUnder t (denied k) = Unit {0}
GrantUnder t (granted ms) = Under t ms

unless_under : (t : Task) (f : ℕ) (g : Grant) → (f ≡ 0 → GrantUnder t g) → GrantUnder t (unless_denied f g)
unfolding unless_denied
unless_under t zero g h = h refl
unless_under t (suc f) g h = tt

grant_under : (t : Task) (ms : List ℕ) (gs : List Access) → Under t ms → GrantUnder t (grant t ms gs)
unfolding grant
grant_under t ms [] u = u
grant_under t ms (g ∷ gs) u =
    unless_under t (access_fault (mode_of t g.location) g.mode) _
    (λ f. grant_under t (set ms g.location (merged (get_or ms g.location 0) g.mode)) gs (set_under t ms g u f))

pub child_under : (t : Task) (ls : List Line) → GrantUnder t (child_modes t ls)
unfolding child_modes
child_under t ls = grant_under t no_modes (all_targets t ls) (no_modes_under t)
