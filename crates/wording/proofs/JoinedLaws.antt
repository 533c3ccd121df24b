-- Texts put one behind the other, one for each item of a list. Assumes nothing.
use Rattle.std.proofs.Common.{ℕ, ◌+◌, ◌*◌, ◌≤◌, ◌<◌, ◌≡◌, refl, sym, ap, subst, ◌∙◌, List, [], ◌∷◌, ◌++◌, append_assoc, append-nil, arith, length, take, get_or}
use native.Mathlib.Numerals.{add-one}
use native.Mathlib.Nat.{mul-suc}
use lib.Seq.{take-suc, take_all}
use Rattle.tasklist.specs.Encode.{joined}
use Rattle.wording.specs.Promises.{PutAt}
use Rattle.wording.proofs.PutLaws.{put_then}

joined_append : {A : Type 0} (e : A → List ℕ) (xs ys : List A) → joined e (xs ++ ys) ≡ joined e xs ++ joined e ys
unfolding joined
joined_append e [] ys = refl
joined_append e (x ∷ xs) ys = ap (λ l. e x ++ l) (joined_append e xs ys) ∙ sym (append_assoc (e x) (joined e xs) (joined e ys))

one_more :
    {A : Type 0} (e : A → List ℕ) (xs : List A) (i : ℕ) (d : A) → i < length xs → joined e (take i xs) ++ e (get_or xs i d) ≡ joined e (take (i + 1) xs)
unfolding joined
one_more e xs i d h =
    sym
    (
    ap (λ j. joined e (take j xs)) (add-one i) ∙ ap (joined e) (take-suc xs i d h) ∙ joined_append e (take i xs) (get_or xs i d ∷ [])
    ∙ ap (λ l. joined e (take i xs) ++ l) (append-nil (e (get_or xs i d)))
    )

module _ {A : Type 0} (e : A → List ℕ) (width : ℕ) (xs : List A) (before : List ℕ) (at : ℕ) where
  -- the texts of the first i items, each of so many bytes at most
  pub record JoinedPut (out : List ℕ) (stop i : ℕ) : Type 0 where
    pub within : i ≤ length xs
    pub put : PutAt (joined e (take i xs)) before at out stop
    pub few : stop ≤ at + width * i

  pub joined_none : JoinedPut before at 0
  unfolding joined
  joined_none = record { within = omega arith; put = record { behind = omega arith; places = refl; long = refl }; few = omega arith }

  pub joined_more :
      {out : List ℕ} {stop i : ℕ} → JoinedPut out stop i → i < length xs → (d : A) {new : List ℕ} {next j : ℕ}
      → PutAt (e (get_or xs i d)) out stop new next → next ≤ stop + width → j ≡ i + 1 → JoinedPut new next j
  joined_more {out} {stop} {i} l h d {new} {next} p most q =
      subst (JoinedPut new next) (sym q)
      (record {
        within = omega arith;
        put = subst (λ x. PutAt x before at new next) (one_more e xs i d h) (put_then l.put p);
        few = omega (arith, most, l.few, ap (λ k. width * k) (add-one i) ∙ mul-suc width i);
      })

  -- all of them
  pub joined_all : {out : List ℕ} {stop i : ℕ} → JoinedPut out stop i → length xs ≤ i → PutAt (joined e xs) before at out stop × (stop ≤ at + width * length xs)
  joined_all {out} {stop} {i} l h =
      let all : i ≡ length xs = omega (arith, l.within) in
      (subst (λ x. PutAt (joined e x) before at out stop) (take_all i xs h) l.put, subst (λ k. stop ≤ at + width * k) all l.few)
