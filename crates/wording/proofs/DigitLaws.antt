-- Laws of numbers in decimal. Assumes nothing.
use Rattle.std.proofs.Common.{ℕ, zero, suc, ◌+◌, ◌/◌, ◌%◌, ◌^◌, ◌≤◌, ◌<◌, ◌≡◌, refl, sym, ap, ◌∙◌, List, [], ◌∷◌, ◌++◌, append_assoc, append-nil, Bool, true, false, arith, length, ltb, length-append}
use Rattle.std.specs.Fmt.{decimal, digit_glyph, digits_onto, digits as printed_digits}
use Prim.Native.Nat.{zero-le}
use native.Mathlib.Nat.{pow-suc}
use lib.ListN.{set}
use lib.Seq.{sets}
use borrow.Author.Tests.{lt-ltb, le-ltb, ltb-true, ltb-false, eq-eqb, ne_eqb}
use Rattle.tasklist.proofs.WriterLaws.{sets_append}
use Rattle.wording.specs.Wording.{digits_within, digits, followed, line}

-- more steps to spare change nothing
within_same : (k m n : ℕ) → n < k → n < m → digits_within k n ≡ digits_within m n
unfolding digits_within
within_same zero m n h j = let z : ⊥ = omega arith in absurd z
within_same (suc k) zero n h j = let z : ⊥ = omega arith in absurd z
within_same (suc k) (suc m) n h j = by_size (within_same k m (n / 10)) (ltb n 10) refl
  where
    by_size : (n / 10 < k → n / 10 < m → digits_within k (n / 10) ≡ digits_within m (n / 10))
        → (t : Bool) → ltb n 10 ≡ t → digits_within (suc k) n ≡ digits_within (suc m) n
    by_size ih true e = rw e refl
    by_size ih false e =
        let big = ltb-false n 10 e in
        rw e (ap (λ l. l ++ ((48 + n % 10) ∷ [])) (ih (omega arith) (omega arith)))

pub digits_one : (n : ℕ) → n < 10 → digits n ≡ (48 + n) ∷ []
unfolding digits digits_within
digits_one n h = rw (lt-ltb n 10 h) refl

pub digits_more : (n : ℕ) → 10 ≤ n → digits n ≡ digits (n / 10) ++ ((48 + n % 10) ∷ [])
unfolding digits digits_within
digits_more n h =
    rw (le-ltb n 10 h) (ap (λ l. l ++ ((48 + n % 10) ∷ [])) (within_same n (suc (n / 10)) (n / 10) (omega arith) (omega arith)))

-- k digits hold every number below 10 ^ k
within_most : (f k n : ℕ) → n < 10 ^ suc k → length (digits_within f n) ≤ suc k
unfolding digits_within
within_most zero k n h = zero-le
within_most (suc f) k n h = by_size (λ j. within_most f j (n / 10)) k h (ltb n 10) refl
  where
    by_size : ((j : ℕ) → n / 10 < 10 ^ suc j → length (digits_within f (n / 10)) ≤ suc j)
        → (k : ℕ) → n < 10 ^ suc k → (t : Bool) → ltb n 10 ≡ t → length (digits_within (suc f) n) ≤ suc k
    by_size ih k h true e = rw e (omega arith)
    by_size ih zero h false e = let big = ltb-false n 10 e in let z : ⊥ = omega (arith, h) in absurd z
    by_size ih (suc k) h false e =
        let big = ltb-false n 10 e in
        let p = pow-suc 10 (suc k) in
        let less : n / 10 < 10 ^ suc k = omega (arith, p, h) in
        rw e (omega (arith, length-append (digits_within f (n / 10)) ((48 + n % 10) ∷ []), ih k less))

pub digits_most : (n : ℕ) → n < 2 ^ 32 → length (digits n) ≤ 10
unfolding digits
digits_most n h = within_most (suc n) 9 n (omega (arith, h))

pub digits_two : (n : ℕ) → n < 100 → length (digits n) ≤ 2
unfolding digits
digits_two n h = within_most (suc n) 1 n (omega (arith, h))

pub digits_three : (n : ℕ) → n < 1000 → length (digits n) ≤ 3
unfolding digits
digits_three n h = within_most (suc n) 2 n (omega (arith, h))

-- a list with one place put behind what was put
pub sets_last : (l xs : List ℕ) (i x : ℕ) → set (sets l i xs) (i + length xs) x ≡ sets l i (xs ++ (x ∷ []))
sets_last l xs i x = sym (sets_append xs l (x ∷ []) i)

-- the digits are those that std prints
digit_is : (d : ℕ) → d < 10 → digit_glyph false d ≡ 48 + d
digit_is d h = rw (lt-ltb d 10 h) refl

onto_small : (k n : ℕ) (acc : List ℕ) → n < 10 → digits_onto (suc k) 10 false n acc ≡ digits n ++ acc
onto_small k n acc h =
    let none : n / 10 ≡ 0 = omega arith in
    let same : n % 10 ≡ n = omega arith in
    rw (eq-eqb (n / 10) 0 none, digits_one n h) (ap (λ d. d ∷ acc) (digit_is (n % 10) (omega arith) ∙ ap (λ d. 48 + d) same))

onto_large :
    (k n : ℕ) (acc : List ℕ) → 10 ≤ n
    → digits_onto k 10 false (n / 10) ((48 + n % 10) ∷ acc) ≡ digits (n / 10) ++ ((48 + n % 10) ∷ acc)
    → digits_onto (suc k) 10 false n acc ≡ digits n ++ acc
onto_large k n acc h ih =
    let some : n / 10 ≡ 0 → ⊥ = λ z. omega arith in
    rw (ne_eqb (n / 10) 0 some)
    (
    ap (λ d. digits_onto k 10 false (n / 10) (d ∷ acc)) (digit_is (n % 10) (omega arith)) ∙ ih
    ∙ sym (append_assoc (digits (n / 10)) ((48 + n % 10) ∷ []) acc) ∙ ap (λ l. l ++ acc) (sym (digits_more n h))
    )

onto_is : (k n : ℕ) (acc : List ℕ) → n < 10 ^ suc k → digits_onto (suc k) 10 false n acc ≡ digits n ++ acc
onto_is zero n acc h = onto_small 0 n acc (omega (arith, h))
onto_is (suc k) n acc h = by_size (onto_is k (n / 10) ((48 + n % 10) ∷ acc) less) (ltb n 10) refl
  where
    less : n / 10 < 10 ^ suc k
    less = let p = pow-suc 10 (suc k) in omega (arith, p, h)

    by_size :
        digits_onto (suc k) 10 false (n / 10) ((48 + n % 10) ∷ acc) ≡ digits (n / 10) ++ ((48 + n % 10) ∷ acc)
        → (t : Bool) → ltb n 10 ≡ t → digits_onto (suc (suc k)) 10 false n acc ≡ digits n ++ acc
    by_size ih true e = onto_small (suc k) n acc (ltb-true n 10 e)
    by_size ih false e = onto_large (suc k) n acc (ltb-false n 10 e) ih

pub decimal_is : (n : ℕ) → n < 2 ^ 32 → decimal n ≡ digits n
unfolding printed_digits
decimal_is n h = onto_is 63 n [] (omega (arith, h)) ∙ append-nil (digits n)

pub followed_length : (n behind : ℕ) → length (followed n behind) ≡ length (digits n) + 1
unfolding followed
followed_length n behind = length-append (digits n) (behind ∷ [])

pub decimal_length : (n behind : ℕ) → n < 2 ^ 32 → length (followed n behind) ≡ length (decimal n) + 1
decimal_length n behind h = followed_length n behind ∙ ap (λ l. length l + 1) (sym (decimal_is n h))

pub put_behind : (out new : List ℕ) (at n behind last : ℕ) → new ≡ sets out at (digits n) → last ≡ at + length (digits n)
    → set new last behind ≡ sets out at (followed n behind)
unfolding followed
put_behind out new at n behind last e q =
    ap (λ l. set l last behind) e ∙ ap (λ k. set (sets out at (digits n)) k behind) q ∙ sets_last out (digits n) at behind

-- a number of 32 bits and the byte behind it
pub followed_most : (n behind : ℕ) → n < 2 ^ 32 → length (followed n behind) ≤ 11
followed_most n behind h = omega (arith, followed_length n behind, digits_most n h)

-- a line of a call has at most 3 bytes, one of any byte at most 4
pub line_most : (n : ℕ) → n ≤ 22 → length (line n) ≤ 3
line_most n h = omega (arith, followed_length n 10, digits_two n (omega arith))

pub byte_line_most : (n : ℕ) → n < 256 → length (line n) ≤ 4
byte_line_most n h = omega (arith, followed_length n 10, digits_three n (omega arith))
