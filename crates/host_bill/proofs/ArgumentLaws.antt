-- Digits one behind the other. Assumes nothing.
use Prim.Native.Nat.{ℕ, suc, ◌+◌, ◌-◌, ◌*◌, ◌^◌, ◌≤◌, ◌<◌}
use mathlib.Core.Path.{◌≡◌, refl, sym, ap, ◌∙◌}
use mathlib.Core.List.{List, [], ◌∷◌}
use mathlib.Core.Bool.{Bool, true, false, cond}
use Rattle.std.specs.Prelude.{Some, None}
use native.Mathlib.Omega.{arith}
use native.Mathlib.Numerals.{add-one}
use lib.ListN.{length, drop, get_or, drop_of_length-le}
use lib.Seq.{drop-cons}
use borrow.Author.Tests.{le-leb, lt-leb, lt-ltb, le-ltb}
use Rattle.host_bill.specs.Argument.{is_digit, pence_from, pence_in}

digit_is : (b : ℕ) → 48 ≤ b → b ≤ 57 → is_digit b ≡ true
unfolding is_digit
digit_is b l m = rw (le-leb 48 b l, le-leb b 57 m) refl

digit_low : (b : ℕ) → b < 48 → is_digit b ≡ false
unfolding is_digit
digit_low b l = rw (lt-leb 48 b l) refl

digit_high : (b : ℕ) → 57 < b → is_digit b ≡ false
unfolding is_digit
digit_high b l = rw (le-leb 48 b (omega arith), lt-leb b 57 l) refl

-- the number only grows
pub pence_large : (n : ℕ) (text : List ℕ) → 2 ^ 32 ≤ n → pence_from n text ≡ None
unfolding pence_from
pence_large n [] h = rw (le-ltb n (2 ^ 32) h) refl
pence_large n (byte ∷ text) h = sort (is_digit byte) (pence_large (10 * n + (byte - 48)) text (omega arith))
  where
    sort :
        (b : Bool) → pence_from (10 * n + (byte - 48)) text ≡ None
        → cond b (pence_from (10 * n + (byte - 48)) text) None ≡ None
    sort true ih = ih
    sort false ih = refl

pub pence_empty : (text : List ℕ) → length text ≡ 0 → pence_in text ≡ None
unfolding pence_in
pence_empty [] h = refl
pence_empty (byte ∷ text) h = let bad : ⊥ = omega (arith, h) in absurd bad

pub pence_begins : (text : List ℕ) → (length text ≡ 0 → ⊥) → pence_in text ≡ pence_from 0 text
unfolding pence_in
pence_begins [] h = absurd (h refl)
pence_begins (byte ∷ text) h = refl

-- What holds at the byte of place i: digits before it made the number n.
pub record Digits (text : List ℕ) (n i : ℕ) : Type 0 where
  pub within : i ≤ length text
  pub small : n < 2 ^ 32
  pub rest : pence_in text ≡ pence_from n (drop i text)

module _ (text : List ℕ) (n i : ℕ) (d : Digits text n i) where
  pub digits_done : length text ≤ i → pence_in text ≡ Some n
  unfolding pence_from
  digits_done h = d.rest ∙ ap (pence_from n) (drop_of_length-le text h) ∙ rw (lt-ltb n (2 ^ 32) d.small) refl

  module _ (h : i < length text) where
    by_byte :
        pence_in text
        ≡ cond (is_digit (get_or text i 0)) (pence_from (10 * n + (get_or text i 0 - 48)) (drop (suc i) text)) None
    unfolding pence_from
    by_byte = d.rest ∙ ap (pence_from n) (drop-cons text i 0 h)

    pub digits_low : get_or text i 0 < 48 → pence_in text ≡ None
    digits_low l = by_byte ∙ rw (digit_low (get_or text i 0) l) refl

    pub digits_high : 57 < get_or text i 0 → pence_in text ≡ None
    digits_high l = by_byte ∙ rw (digit_high (get_or text i 0) l) refl

    module _ (low : 48 ≤ get_or text i 0) (high : get_or text i 0 ≤ 57) where
      one_more : pence_in text ≡ pence_from (10 * n + (get_or text i 0 - 48)) (drop (suc i) text)
      one_more = by_byte ∙ rw (digit_is (get_or text i 0) low high) refl

      pub digits_large : 2 ^ 32 ≤ 10 * n + (get_or text i 0 - 48) → pence_in text ≡ None
      digits_large l = one_more ∙ pence_large (10 * n + (get_or text i 0 - 48)) (drop (suc i) text) l

      pub digits_more : (m : ℕ) → m ≡ 10 * n + (get_or text i 0 - 48) → m < 2 ^ 32 → Digits text m (i + 1)
      digits_more m e l =
          record {
            within = omega arith;
            small = l;
            rest =
                one_more
                ∙ ap (pence_from (10 * n + (get_or text i 0 - 48))) (ap (λ k. drop k text) (sym (add-one i)))
                ∙ ap (λ k. pence_from k (drop (i + 1) text)) (sym e);
          }
