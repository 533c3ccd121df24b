-- What is asked of a list, a memory and a table of weights: it is denied whatever it is, or it is given. Assumes nothing.
use Prim.Native.Nat.{ℕ, ◌≤◌}
use mathlib.Core.Path.{◌≡◌, refl, ap}
use mathlib.Core.List.{List}
use mathlib.Core.Bool.{Bool, true, false, cond}
use native.Mathlib.Omega.{arith}
use lib.ListN.{length}
use lib.Dec.{eqb}
use borrow.Author.Tests.{eqb-true}
use Rattle.tasklist.specs.TaskList.{TaskList}
use Rattle.tasklist.specs.Decode.{Decoded, refused, accepted, decode}
use Rattle.tasklist.proofs.RefusalLaws.{refused_above}
use Rattle.semantics.specs.Run.{Context, context, weight_places, is_weight}
use Rattle.semantics.specs.Access.{every}
use Rattle.semantics.specs.Operations.{Asked, denies, gives, with_weights, WeightsAccepted, with_list}

module _ (bytes memory weights : List ℕ) where
  abbrev asked : (A : Type 0) → (Context → A) → Asked A
  asked A f = with_list (decode bytes) memory weights f

  pub data AskedCase : Type 1 where
    denied : (k : ℕ) → 1 ≤ k → ((A : Type 0) (f : Context → A) → asked A f ≡ denies k) → AskedCase
    given :
        (l : TaskList) → decode bytes ≡ accepted l → length memory ≡ l.locations → WeightsAccepted weights
        → ((A : Type 0) (f : Context → A) → asked A f ≡ gives (f (context l weights))) → AskedCase

  -- what is asked of an accepted list, by the three tests
  abbrev by_tests : (A : Type 0) → TaskList → Bool → Bool → Bool → (Context → A) → Asked A
  by_tests A l fits whole each f = cond fits (cond whole (cond each (gives (f (context l weights))) (denies 22)) (denies 21)) (denies 8)

  pub asked_case : AskedCase
  unfolding with_list with_weights
  asked_case = by_list (decode bytes) refl
    where
      by_memory :
          (l : TaskList) → decode bytes ≡ accepted l → (fits : Bool) → eqb (length memory) l.locations ≡ fits
          → (whole : Bool) → eqb (length weights) weight_places ≡ whole → (each : Bool) → every is_weight weights ≡ each
          → ((A : Type 0) (f : Context → A) → asked A f ≡ by_tests A l fits whole each f) → AskedCase
      by_memory l listed false p whole q each r e = denied 8 (omega arith) e
      by_memory l listed true p false q each r e = denied 21 (omega arith) e
      by_memory l listed true p true q false r e = denied 22 (omega arith) e
      by_memory l listed true p true q true r e =
          given l listed (eqb-true (length memory) l.locations p)
          (record { size = eqb-true (length weights) weight_places q; each = r }) e

      by_list : (d : Decoded) → decode bytes ≡ d → AskedCase
      by_list (refused k) listed =
          denied k (refused_above bytes k listed) (λ A f. ap (λ d. with_list d memory weights f) listed)
      by_list (accepted l) listed =
          by_memory l listed (eqb (length memory) l.locations) refl (eqb (length weights) weight_places) refl (every is_weight weights) refl
          (λ A f. ap (λ d. with_list d memory weights f) listed)
