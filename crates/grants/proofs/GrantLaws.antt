-- Laws of a footprint's modes: the model's faults by their numbers, and its lines one by one. Assumes nothing.
use Prim.Native.Nat.{ℕ, zero, suc, ◌+◌, ◌≤◌, ◌<◌}
use mathlib.Core.Path.{◌≡◌, refl, sym, ap, ◌∙◌}
use mathlib.Core.List.{List, [], ◌∷◌, ◌++◌}
use mathlib.Core.Logic.{◌≢◌}
use native.Mathlib.Omega.{arith}
use native.Mathlib.Numerals.{add-one}
use lib.ListN.{length, drop, get_or, set, drop_of_length-le}
use lib.Seq.{drop-cons}
use borrow.Author.Tests.{eq-eqb, ne_eqb}
use Rattle.tasklist.specs.declared.Line.{Line}
use Rattle.tasklist.specs.Accepted.{blank_line}
use Rattle.semantics.specs.Run.{Task, no_modes}
use Rattle.semantics.specs.Access.{Access, access_fault}
use Rattle.semantics.specs.Footprint.{Grant, denied, granted, targets, all_targets, merged, unless_denied, grant, child_modes}
use Rattle.ahead.specs.Ahead.{access}
use Rattle.semantics.specs.declared.Fault.{Fault}
use Rattle.semantics.specs.declared.Fault.TheVariants.{Outside, Mode, TooLarge, ZeroDivisor}
use Rattle.semantics.specs.Answers.{fault_number}
use Rattle.grants.specs.Grants.{named_location, named_mode, spawner, child_registers, child_grant}

-- the fault of an access, by the own mode and the mode asked for
pub reader_reads : (own asked : ℕ) → own ≡ 1 → asked ≤ 1 → 0 ≡ access_fault own asked
unfolding access_fault
reader_reads own asked q h = by asked h ∙ ap (λ o. access_fault o asked) (sym q)
  where
    by : (asked : ℕ) → asked ≤ 1 → 0 ≡ access_fault 1 asked
    by zero h = refl
    by (suc zero) h = refl
    by (suc (suc a)) h = let z : ⊥ = omega arith in absurd z

pub writer_may : (own asked : ℕ) → own ≡ 2 → asked ≤ 3 → 0 ≡ access_fault own asked
unfolding access_fault
writer_may own asked q h = by asked h ∙ ap (λ o. access_fault o asked) (sym q)
  where
    by : (asked : ℕ) → asked ≤ 3 → 0 ≡ access_fault 2 asked
    by zero h = refl
    by (suc zero) h = refl
    by (suc (suc zero)) h = refl
    by (suc (suc (suc zero))) h = refl
    by (suc (suc (suc (suc a)))) h = let z : ⊥ = omega arith in absurd z

pub summer_none : (own asked : ℕ) → own ≡ 3 → asked ≡ 0 → 0 ≡ access_fault own asked
unfolding access_fault
summer_none own asked q h = ap (λ a. access_fault 3 a) (sym h) ∙ ap (λ o. access_fault o asked) (sym q)

pub summer_sums : (own asked : ℕ) → own ≡ 3 → asked ≡ 3 → 0 ≡ access_fault own asked
unfolding access_fault
summer_sums own asked q h = ap (λ a. access_fault 3 a) (sym h) ∙ ap (λ o. access_fault o asked) (sym q)

pub reader_writes : (own asked : ℕ) → own ≡ 1 → 1 < asked → asked ≤ 3 → 2 ≡ access_fault own asked
unfolding access_fault
reader_writes own asked q l h = by asked l h ∙ ap (λ o. access_fault o asked) (sym q)
  where
    by : (asked : ℕ) → 1 < asked → asked ≤ 3 → 2 ≡ access_fault 1 asked
    by zero l h = let z : ⊥ = omega arith in absurd z
    by (suc zero) l h = let z : ⊥ = omega arith in absurd z
    by (suc (suc zero)) l h = refl
    by (suc (suc (suc zero))) l h = refl
    by (suc (suc (suc (suc a)))) l h = let z : ⊥ = omega arith in absurd z

pub summer_reads : (own asked : ℕ) → own ≡ 3 → 1 ≤ asked → asked ≤ 2 → 2 ≡ access_fault own asked
unfolding access_fault
summer_reads own asked q l h = by asked l h ∙ ap (λ o. access_fault o asked) (sym q)
  where
    by : (asked : ℕ) → 1 ≤ asked → asked ≤ 2 → 2 ≡ access_fault 3 asked
    by zero l h = let z : ⊥ = omega arith in absurd z
    by (suc zero) l h = refl
    by (suc (suc zero)) l h = refl
    by (suc (suc (suc a))) l h = let z : ⊥ = omega arith in absurd z

pub asked_beyond : (own asked : ℕ) → 3 < asked → 1 ≡ access_fault own asked
unfolding access_fault
asked_beyond own zero h = let z : ⊥ = omega arith in absurd z
asked_beyond own (suc zero) h = let z : ⊥ = omega arith in absurd z
asked_beyond own (suc (suc zero)) h = let z : ⊥ = omega arith in absurd z
asked_beyond own (suc (suc (suc zero))) h = let z : ⊥ = omega arith in absurd z
asked_beyond zero (suc (suc (suc (suc a)))) h = refl
asked_beyond (suc zero) (suc (suc (suc (suc a)))) h = refl
asked_beyond (suc (suc zero)) (suc (suc (suc (suc a)))) h = refl
asked_beyond (suc (suc (suc zero))) (suc (suc (suc (suc a)))) h = refl
asked_beyond (suc (suc (suc (suc o)))) (suc (suc (suc (suc a)))) h = refl

pub own_other : (own asked : ℕ) → own ≢ 1 → own ≢ 2 → own ≢ 3 → 1 ≡ access_fault own asked
unfolding access_fault
own_other zero zero p q r = refl
own_other zero (suc zero) p q r = refl
own_other zero (suc (suc zero)) p q r = refl
own_other zero (suc (suc (suc zero))) p q r = refl
own_other zero (suc (suc (suc (suc a)))) p q r = refl
own_other (suc zero) a p q r = absurd (p refl)
own_other (suc (suc zero)) a p q r = absurd (q refl)
own_other (suc (suc (suc zero))) a p q r = absurd (r refl)
own_other (suc (suc (suc (suc o)))) a p q r = refl

-- for the test of an access
pub ruleset faults = (reader_reads, writer_may, summer_none, summer_sums, reader_writes, summer_reads, asked_beyond, own_other)

-- the mode of two lines, by whether the modes are there and are one
pub merged_first : (e m : ℕ) → e ≡ 0 → m ≡ merged e m
unfolding merged
merged_first zero m q = refl
merged_first (suc e) m q = let z : ⊥ = omega arith in absurd z

pub merged_none : (e m : ℕ) → m ≡ 0 → e ≡ merged e m
unfolding merged
merged_none zero m q = sym q
merged_none (suc e) zero q = refl
merged_none (suc e) (suc m) q = let z : ⊥ = omega arith in absurd z

pub merged_common : (e m : ℕ) → e ≡ m → m ≡ merged e m
unfolding merged
merged_common zero m q = refl
merged_common (suc e) zero q = sym q
merged_common (suc e) (suc m) q = rw (eq-eqb e m (omega arith)) refl

pub merged_other : (e m : ℕ) → e ≢ 0 → m ≢ 0 → e ≢ m → 2 ≡ merged e m
unfolding merged
merged_other zero m p q r = absurd (p refl)
merged_other (suc e) zero p q r = absurd (q refl)
merged_other (suc e) (suc m) p q r = rw (ne_eqb e m (λ x. r (ap suc x))) refl

-- for the mode of two lines
pub ruleset merges = (merged_first, merged_none, merged_common, merged_other)

-- a fault's number is not 0, which denies
pub fault_above : (k : Fault) → fault_number k ≢ 0
fault_above Outside e = omega arith
fault_above Mode e = omega arith
fault_above TooLarge e = omega arith
fault_above ZeroDivisor e = omega arith

pub denies : (k : Fault) (g : Grant) → unless_denied (fault_number k) g ≡ denied (fault_number k)
unfolding unless_denied
denies Outside g = refl
denies Mode g = refl
denies TooLarge g = refl
denies ZeroDivisor g = refl

-- the first j lines are granted these modes
module _ (registers own : List ℕ) (ls : List Line) where
  pub Given : List ℕ → ℕ → Type 0
  Given modes j = child_modes (spawner registers own) ls ≡ grant (spawner registers own) modes (all_targets (spawner registers own) (drop j ls))

  pub given_none : Given no_modes 0
  unfolding Given child_modes
  given_none = refl

  module _ (modes : List ℕ) (j location asked : ℕ) (l : Line) (h : j < length ls) (q : l ≡ get_or ls j blank_line)
      (p : location ≡ named_location registers l) (m : asked ≡ named_mode l) (e : Given modes j) where
    abbrev with_line : List ℕ
    with_line = set modes location (merged (get_or modes location 0) asked)

    abbrev rest : Grant
    rest = grant (spawner registers own) with_line (all_targets (spawner registers own) (drop (suc j) ls))

    opened : (k : ℕ) → k ≡ access_fault (get_or own location 0) asked → child_modes (spawner registers own) ls ≡ unless_denied k rest
    unfolding Given all_targets targets grant named_location named_mode
    opened k f =
        e ∙
        ap (λ d. grant (spawner registers own) modes (all_targets (spawner registers own) d))
        (drop-cons ls j blank_line h ∙ ap (λ x. x ∷ drop (suc j) ls) (sym q)) ∙
        ap (λ a. grant (spawner registers own) modes (access a (named_mode l) ∷ all_targets (spawner registers own) (drop (suc j) ls))) (sym p) ∙
        ap (λ a. grant (spawner registers own) modes (access location a ∷ all_targets (spawner registers own) (drop (suc j) ls))) (sym m) ∙
        ap (λ k. unless_denied k rest) (sym f)

    pub given_more : 0 ≡ access_fault (get_or own location 0) asked → Given with_line (j + 1)
    unfolding Given unless_denied
    given_more z = rw (add-one j) (opened 0 z)

    pub given_denied :
        (k : Fault) → fault_number k ≡ access_fault (get_or own location 0) asked
        → denied (fault_number k) ≡ child_modes (spawner registers own) ls
    given_denied k f = sym (opened (fault_number k) f ∙ denies k rest)

  pub given_all : (modes : List ℕ) (j : ℕ) → length ls ≤ j → Given modes j → granted modes ≡ child_modes (spawner registers own) ls
  unfolding Given all_targets grant
  given_all modes j h e =
      sym (e ∙ ap (λ d. grant (spawner registers own) modes (all_targets (spawner registers own) d)) (drop_of_length-le ls h))

-- the same of child i, by its registers
module _ (registers own : List ℕ) (ls : List Line) (i k : ℕ) (seen : List ℕ) (same : k ≡ i) (q : seen ≡ child_registers k registers) where
  by_registers : child_modes (spawner seen own) ls ≡ child_grant registers own ls i
  unfolding child_grant
  by_registers = ap (λ rs. child_modes (spawner rs own) ls) (q ∙ ap (λ n. child_registers n registers) same)

  pub child_all : (modes : List ℕ) (j : ℕ) → length ls ≤ j → Given seen own ls modes j → granted modes ≡ child_grant registers own ls i
  child_all modes j h e = given_all seen own ls modes j h e ∙ by_registers

  pub child_denied :
      (modes : List ℕ) (j location asked : ℕ) → j < length ls → location ≡ named_location seen (get_or ls j blank_line)
      → asked ≡ named_mode (get_or ls j blank_line) → Given seen own ls modes j → (f : Fault) (mine : ℕ)
      → fault_number f ≡ access_fault mine asked → mine ≡ get_or own location 0
      → denied (fault_number f) ≡ child_grant registers own ls i
  child_denied modes j location asked h p m e f mine a o =
      given_denied seen own ls modes j location asked (get_or ls j blank_line) h refl p m e f (a ∙ ap (λ x. access_fault x asked) o)
      ∙ by_registers

-- for what a footprint gives a child
pub ruleset lines_granted = (given_none, given_more, child_all, child_denied)

-- a task's registers and modes are all that matters
same_targets : (t : Task) (ls : List Line) → all_targets (spawner t.registers t.modes) ls ≡ all_targets t ls
unfolding all_targets targets
same_targets t [] = refl
same_targets t (l ∷ ls) = ap (λ r. targets t l ++ r) (same_targets t ls)

same_grant : (t : Task) (so_far : List ℕ) (gs : List Access) → grant (spawner t.registers t.modes) so_far gs ≡ grant t so_far gs
unfolding grant
same_grant t so_far [] = refl
same_grant t so_far (g ∷ gs) =
    ap (unless_denied (access_fault (get_or t.modes g.location 0) g.mode))
    (same_grant t (set so_far g.location (merged (get_or so_far g.location 0) g.mode)) gs)

pub any_spawner : (t : Task) (ls : List Line) → child_modes (spawner t.registers t.modes) ls ≡ child_modes t ls
unfolding child_modes
any_spawner t ls =
    same_grant t no_modes (all_targets (spawner t.registers t.modes) ls) ∙ ap (grant t no_modes) (same_targets t ls)
