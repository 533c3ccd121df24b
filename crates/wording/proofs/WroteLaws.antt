-- Laws of what is written at the front of a lent slice. Assumes nothing.
use Rattle.std.proofs.Common.{ℕ, ◌≤◌, ◌<◌, ◌≡◌, refl, sym, ap, subst, ◌∙◌, List, [], ◌++◌, true, false, cond, leb, arith, zero-add, length, drop}
use Prim.Native.Nat.{zero-le}
use lib.Seq.{sets, sets-eq, length-sets, length-take-le}
use borrow.Author.Tests.{le-leb, lt-leb}
use Rattle.wording.specs.Promises.{given, Wrote}

-- these bytes, where there is room for them
module _ (room : ℕ) (out bytes : List ℕ) where
  pub no_room : length out < room → given room out bytes ≡ []
  unfolding given
  no_room h = rw (lt-leb room (length out) h) refl

  pub with_room : room ≤ length out → given room out bytes ≡ bytes
  unfolding given
  with_room h = rw (le-leb room (length out) h) refl

pub given_none : (room : ℕ) (out bytes : List ℕ) → bytes ≡ [] → given room out bytes ≡ []
unfolding given
given_none room out bytes e =
    ap (λ b. cond (leb room (length out)) b []) e
    ∙ elim (leb room (length out)) as (λ b. cond {A = List ℕ} b [] [] ≡ []) [ true ↦ refl | false ↦ refl ]

-- nothing, or all of it
pub wrote_none : (bytes out : List ℕ) → bytes ≡ [] → Wrote bytes out out 0
wrote_none bytes out e =
    subst (λ b. Wrote b out out 0) (sym e) (record { count = refl; places = refl; within = zero-le; whole = refl })

pub wrote_all :
    (given_bytes bytes out new : List ℕ) (n : ℕ) → given_bytes ≡ bytes → length bytes ≤ length out → n ≡ length bytes
    → new ≡ sets out 0 bytes → Wrote given_bytes out new n
wrote_all given_bytes bytes out new n g h k e =
    subst (λ b. Wrote b out new n) (sym g)
    (record {
      count = k;
      places =
          e ∙ sets-eq bytes out 0 (omega (arith, zero-add (length bytes))) ∙ ap (λ x. bytes ++ drop x out) (zero-add (length bytes));
      within = inside;
      whole = sym (length-take-le n new inside);
    })
  where
    inside : n ≤ length new
    inside = omega (arith, ap length e, length-sets out 0 bytes)
