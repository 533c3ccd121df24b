-- What the tables of modes and a footprint keep sound: faults of at most 2, modes of at most 3 and none from C on. Assumes
-- nothing.
use Prim.Native.Nat.{ℕ, zero, suc, ◌^◌, ◌<◌, ◌≤◌}
use mathlib.Core.Path.{◌≡◌, refl, sym, ap, subst, ◌∙◌}
use mathlib.Core.List.{List, [], ◌∷◌}
use mathlib.Core.Bool.{Bool, true, false, cond}
use mathlib.Core.Logic.{◌⊎◌, inl, inr}
use native.Mathlib.Omega.{arith}
use lib.ListN.{get_or, set, length-set, length-replicate}
use lib.Dec.{eqb}
use Rattle.tasklist.specs.declared.Line.{Line}
use Rattle.semantics.specs.Run.{Task, mode_of, no_modes}
use Rattle.semantics.specs.Access.{Access, access_fault}
use Rattle.semantics.specs.Footprint.{Grant, denied, granted, merged, unless_denied, grant, child_modes, all_targets}
use Rattle.semantics.specs.Sound.{ModesSound, RegistersSound}
use Rattle.semantics.proofs.Modes.{not_zero, none_at, getD_set_cases}

-- the two tables
pub fault_most : (o m : ℕ) → access_fault o m ≤ 2
unfolding access_fault
fault_most zero zero = omega arith
fault_most zero (suc zero) = omega arith
fault_most zero (suc (suc zero)) = omega arith
fault_most zero (suc (suc (suc zero))) = omega arith
fault_most zero (suc (suc (suc (suc m)))) = omega arith
fault_most (suc zero) zero = omega arith
fault_most (suc zero) (suc zero) = omega arith
fault_most (suc zero) (suc (suc zero)) = omega arith
fault_most (suc zero) (suc (suc (suc zero))) = omega arith
fault_most (suc zero) (suc (suc (suc (suc m)))) = omega arith
fault_most (suc (suc zero)) zero = omega arith
fault_most (suc (suc zero)) (suc zero) = omega arith
fault_most (suc (suc zero)) (suc (suc zero)) = omega arith
fault_most (suc (suc zero)) (suc (suc (suc zero))) = omega arith
fault_most (suc (suc zero)) (suc (suc (suc (suc m)))) = omega arith
fault_most (suc (suc (suc zero))) zero = omega arith
fault_most (suc (suc (suc zero))) (suc zero) = omega arith
fault_most (suc (suc (suc zero))) (suc (suc zero)) = omega arith
fault_most (suc (suc (suc zero))) (suc (suc (suc zero))) = omega arith
fault_most (suc (suc (suc zero))) (suc (suc (suc (suc m)))) = omega arith
fault_most (suc (suc (suc (suc o)))) m = omega arith

-- a mode that is granted is at most 3, and nothing is granted where the own mode is none
granted_most : (o m : ℕ) → access_fault o m ≡ 0 → m ≤ 3
granted_most o zero f = omega arith
granted_most o (suc zero) f = omega arith
granted_most o (suc (suc zero)) f = omega arith
granted_most o (suc (suc (suc zero))) f = omega arith
granted_most zero (suc (suc (suc (suc m)))) f = absurd (not_zero 0 (unfold access_fault in f))
granted_most (suc zero) (suc (suc (suc (suc m)))) f = absurd (not_zero 0 (unfold access_fault in f))
granted_most (suc (suc zero)) (suc (suc (suc (suc m)))) f = absurd (not_zero 0 (unfold access_fault in f))
granted_most (suc (suc (suc zero))) (suc (suc (suc (suc m)))) f = absurd (not_zero 0 (unfold access_fault in f))
granted_most (suc (suc (suc (suc o)))) (suc (suc (suc (suc m)))) f = absurd (not_zero 0 (unfold access_fault in f))

pub none_grants : (m : ℕ) → access_fault 0 m ≡ 0 → ⊥
none_grants zero f = not_zero 0 (unfold access_fault in f)
none_grants (suc zero) f = not_zero 0 (unfold access_fault in f)
none_grants (suc (suc zero)) f = not_zero 0 (unfold access_fault in f)
none_grants (suc (suc (suc zero))) f = not_zero 0 (unfold access_fault in f)
none_grants (suc (suc (suc (suc m)))) f = not_zero 0 (unfold access_fault in f)

-- a task whose own mode grants something has a place in the queue
pub granted_queued : (o m : ℕ) → access_fault o m ≡ 0 → o ≡ 0 → ⊥
granted_queued o m f z = none_grants m (subst (λ x. access_fault x m ≡ 0) z f)

-- a merged mode is at most 3 where both are
merged_most : (e m : ℕ) → e ≤ 3 → m ≤ 3 → merged e m ≤ 3
unfolding merged
merged_most zero m p q = q
merged_most (suc e) zero p q = p
merged_most (suc e) (suc m) p q = most (eqb e m)
  where
    most : (same : Bool) → cond same (suc m) 2 ≤ 3
    most true = q
    most false = omega arith

-- registers and modes after one is set
pub registers_set : (rs : List ℕ) (a v : ℕ) → RegistersSound rs → v < 2 ^ 32 → RegistersSound (set rs a v)
registers_set rs a v h k = record { size = length-set rs a v ∙ h.size; small = λ j. sort j (getD_set_cases rs a v j 0) }
  where
    sort :
        (j : ℕ) → (get_or (set rs a v) j 0 ≡ get_or rs j 0) ⊎ ((j ≡ a) × (get_or (set rs a v) j 0 ≡ v))
        → get_or (set rs a v) j 0 < 2 ^ 32
    sort j (inl q) = subst (λ x. x < 2 ^ 32) (sym q) (h.small j)
    sort j (inr q) = subst (λ x. x < 2 ^ 32) (sym q.1) k

pub none_sound : (locations : ℕ) → ModesSound locations no_modes
none_sound locations =
    record {
      size = unfold no_modes in length-replicate {A = ℕ} 64 0;
      most = λ a. subst (λ x. x ≤ 3) (sym (none_at a)) (omega arith);
      beyond = λ a l. none_at a;
    }

-- what a grant comes to: fault 1 or 2, or sound modes
abbrev pub GrantSound : ℕ → Grant → Type 0
GrantSound locations (denied k) = (k ≤ 2) × (k ≡ 0 → ⊥)
GrantSound locations (granted ms) = ModesSound locations ms

module _ (locations : ℕ) (t : Task) (own_modes : ModesSound locations t.modes) where
  set_sound :
      (ms : List ℕ) (g : Access) → ModesSound locations ms → access_fault (mode_of t g.location) g.mode ≡ 0
      → ModesSound locations (set ms g.location (merged (get_or ms g.location 0) g.mode))
  set_sound ms g h f =
      record {
        size = length-set ms g.location mode ∙ h.size;
        most = λ a. most a (getD_set_cases ms g.location mode a 0);
        beyond = λ a l. beyond a l (getD_set_cases ms g.location mode a 0);
      }
    where
      mode : ℕ
      mode = merged (get_or ms g.location 0) g.mode

      after : List ℕ
      after = set ms g.location mode

      most :
          (a : ℕ) → (get_or after a 0 ≡ get_or ms a 0) ⊎ ((a ≡ g.location) × (get_or after a 0 ≡ mode))
          → get_or after a 0 ≤ 3
      most a (inl q) = subst (λ x. x ≤ 3) (sym q) (h.most a)
      most a (inr q) =
          subst (λ x. x ≤ 3) (sym q.1)
          (merged_most (get_or ms g.location 0) g.mode (h.most g.location)
          (granted_most (mode_of t g.location) g.mode f))

      beyond :
          (a : ℕ) → locations ≤ a → (get_or after a 0 ≡ get_or ms a 0) ⊎ ((a ≡ g.location) × (get_or after a 0 ≡ mode))
          → get_or after a 0 ≡ 0
      beyond a l (inl q) = q ∙ h.beyond a l
      beyond a l (inr q) =
          absurd
          (none_grants g.mode
          (subst (λ o. access_fault o g.mode ≡ 0) (ap (mode_of t) (sym q.0) ∙ own_modes.beyond a l) f))

  unless_sound :
      (f : ℕ) (g : Grant) → f ≤ 2 → (f ≡ 0 → GrantSound locations g) → GrantSound locations (unless_denied f g)
  unfolding unless_denied
  unless_sound zero g p h = h refl
  unless_sound (suc f) g p h = (p, not_zero f)

  grant_sound : (ms : List ℕ) (gs : List Access) → ModesSound locations ms → GrantSound locations (grant t ms gs)
  unfolding grant
  grant_sound ms [] h = h
  grant_sound ms (g ∷ gs) h =
      unless_sound (access_fault (mode_of t g.location) g.mode) _ (fault_most (mode_of t g.location) g.mode)
      (λ f. grant_sound (set ms g.location (merged (get_or ms g.location 0) g.mode)) gs (set_sound ms g h f))

  pub child_sound : (ls : List Line) → GrantSound locations (child_modes t ls)
  unfolding child_modes
  child_sound ls = grant_sound no_modes (all_targets t ls) (none_sound locations)
