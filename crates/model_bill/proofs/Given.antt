-- Where a bill is shared: what is given, no task left and some ward. Assumes nothing.
use Prim.Native.Nat.{ℕ}
use mathlib.Core.Path.{◌≡◌, refl, sym, ap, ◌∙◌}
use mathlib.Core.List.{List, [], ◌∷◌}
use mathlib.Core.Bool.{Bool, true, false, cond, false≢true}
use native.Mathlib.Omega.{arith}
use lib.ListN.{length}
use lib.Dec.{leb, eqb}
use borrow.Author.Tests.{eqb-true, eq-eqb}
use Rattle.semantics.specs.Run.{Run, Context}
use Rattle.semantics.specs.Operations.{Asked, denies, gives}
use Rattle.bill_shares.specs.Shares.{shares}
use Rattle.model_bill.specs.Bill.{wards, ward_weights, shares_asked}

abbrev pub is_given : {A : Type 0} → Asked A → Bool
is_given (denies k) = false
is_given (gives a) = true

-- what is given, where something is
abbrev pub given_or : {A : Type 0} → A → Asked A → A
given_or a (denies k) = a
given_or a (gives b) = b

pub no_items : {A : Type 0} (l : List A) → length l ≡ 0 → l ≡ []
no_items [] q = refl
no_items (x ∷ l) q = let bad : ⊥ = omega (arith, q) in absurd bad

pub record Given (c : Context) (r : Run) (bill : ℕ) (given : List ℕ) : Type 0 where
  pub is : given ≡ shares bill (ward_weights c r)
  pub done : r.order ≡ []
  pub some : wards c r ≡ [] → ⊥

pub asked_gives :
    (c : Context) (r : Run) (bill room : ℕ) (given : List ℕ) → shares_asked c r bill room ≡ gives given → Given c r bill given
unfolding shares_asked
asked_gives c r bill room given e =
    sort (eqb (length r.order) 0) (eqb (length (wards c r)) 0) (leb (length (wards c r)) room) refl refl e
  where
    sort :
        (done none fits : Bool) → eqb (length r.order) 0 ≡ done → eqb (length (wards c r)) 0 ≡ none
        → cond done (cond none (denies 29) (cond fits (gives (shares bill (ward_weights c r))) (denies 17))) (denies 28) ≡ gives given
        → Given c r bill given
    sort false none fits d n q = absurd (false≢true (ap is_given q))
    sort true true fits d n q = absurd (false≢true (ap is_given q))
    sort true false false d n q = absurd (false≢true (ap is_given q))
    sort true false true d n q =
        record {
          is = sym (ap (given_or []) q);
          done = no_items r.order (eqb-true (length r.order) 0 d);
          some = λ z. false≢true (sym n ∙ eq-eqb (length (wards c r)) 0 (ap length z));
        }
