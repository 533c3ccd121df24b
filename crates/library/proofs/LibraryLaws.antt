-- Laws of a library's numbers. Assumes nothing.
use Rattle.std.proofs.Common.{ℕ, zero, suc, ◌+◌, ◌*◌, ◌/◌, ◌%◌, ◌^◌, ◌≤◌, ◌<◌, ◌≡◌, refl, sym, ap, ◌∙◌, List, [], ◌∷◌, ◌++◌, append_assoc, Bool, true, false, cond, arith, map, length, take, drop, get_or, leb, eqb}
use Rattle.std.specs.Prelude.{Ok, Err}
use Rattle.std.specs.Int.{w32, from_le_bytes, to_le_bytes}
use Rattle.std.specs.Simd.{first_chunks}
use borrow.Rule.Slice.PartMut.{put_mid}
use native.Mathlib.Nat.{div-div-eq-div-mul, mod-eq_of_lt}
use Rattle.std.proofs.lemmas.List.{take_at, drop_at, drop-drop, take_more, length-map, map-append}
use lib.ListN.{length-append}
use lib.Seq.{length-take-le}
use borrow.Author.Tests.{eq-eqb, ne_eqb, le-leb, lt-leb, leb-true, leb-false}
use Rattle.library.specs.declared.Numbers.{Numbers}
use Rattle.library.specs.Library.{number_of, numbers_of, number_bytes, bytes_of, memory_of, fitting, Read, at_front, Put}

-- lengths
pub numbers_length : (bytes : List ℕ) → length (numbers_of bytes) ≡ length bytes / 4
unfolding numbers_of
numbers_length [] = refl
numbers_length (a ∷ []) = refl
numbers_length (a ∷ b ∷ []) = refl
numbers_length (a ∷ b ∷ c ∷ []) = refl
numbers_length (a ∷ b ∷ c ∷ d ∷ rest) = omega (arith, numbers_length rest)

pub number_length : (n : ℕ) → length (number_bytes n) ≡ 4
unfolding number_bytes
number_length n = refl

pub bytes_length : (ns : List ℕ) → length (bytes_of ns) ≡ 4 * length ns
unfolding bytes_of
bytes_length [] = refl
bytes_length (n ∷ ns) =
    length-append (number_bytes n) (bytes_of ns) ∙ omega (arith, number_length n, bytes_length ns)

-- the code reads at most 64 numbers
module _ (bytes : List ℕ) where
  pub fitting_long : 256 < length bytes → fitting bytes ≡ []
  unfolding fitting
  fitting_long h = rw (lt-leb (length bytes) 256 h) refl

  pub fitting_short : length bytes ≤ 256 → fitting bytes ≡ memory_of bytes
  unfolding fitting
  fitting_short h = rw (le-leb (length bytes) 256 h) refl

  pub memory_odd : (length bytes % 4 ≡ 0 → ⊥) → memory_of bytes ≡ []
  unfolding memory_of
  memory_odd h = rw (ne_eqb (length bytes % 4) 0 h) refl

  pub fitting_odd : (length bytes % 4 ≡ 0 → ⊥) → fitting bytes ≡ []
  unfolding fitting
  fitting_odd h =
      ap (λ m. cond (leb (length bytes) 256) m []) (memory_odd h)
      ∙ elim (leb (length bytes) 256) as (λ b. cond {A = List ℕ} b [] [] ≡ []) [ true ↦ refl | false ↦ refl ]

  pub memory_whole : length bytes % 4 ≡ 0 → memory_of bytes ≡ numbers_of bytes
  unfolding memory_of
  memory_whole h = rw (eq-eqb (length bytes % 4) 0 h) refl

-- "a length other than 4 × C gives 8": a memory of C numbers comes of 4 × C bytes, and of no other number of bytes
pub fits_length : (bytes : List ℕ) (locations : ℕ) → length bytes ≡ 4 * locations → length (memory_of bytes) ≡ locations
fits_length bytes locations h =
    let whole : length bytes % 4 ≡ 0 = omega arith in
    ap length (memory_whole bytes whole) ∙ omega (arith, numbers_length bytes)

pub fits_only : (bytes : List ℕ) (locations : ℕ) → 1 ≤ locations → length (memory_of bytes) ≡ locations → length bytes ≡ 4 * locations
fits_only bytes locations some h = by_rest (length bytes % 4) refl
  where
    by_rest : (r : ℕ) → length bytes % 4 ≡ r → length bytes ≡ 4 * locations
    by_rest zero e = omega (arith, numbers_length bytes, ap length (memory_whole bytes e))
    by_rest (suc r) e =
        let none_left : length (memory_of bytes) ≡ 0 = ap length (memory_odd bytes (λ z. omega arith)) in
        omega arith

-- A memory that the code does not read fits no list; and it reads no other.
pub data Fitting (bytes : List ℕ) : Type 0 where
  same : fitting bytes ≡ memory_of bytes → Fitting bytes
  apart :
      fitting bytes ≡ [] → ((locations : ℕ) → 1 ≤ locations → locations ≤ 64 → length (memory_of bytes) ≡ locations → ⊥)
      → Fitting bytes

pub fitting_is : (bytes : List ℕ) → Fitting bytes
fitting_is bytes = by_size (leb (length bytes) 256) refl
  where
    by_size : (t : Bool) → leb (length bytes) 256 ≡ t → Fitting bytes
    by_size true e = same (fitting_short bytes (leb-true (length bytes) 256 e))
    by_size false e =
        let long : 256 < length bytes = leb-false (length bytes) 256 e in
        apart (fitting_long bytes long) (λ locations some few h. omega (arith, fits_only bytes locations some h))

-- what is given where the memory fits a list of 1 to 64 locations is the same of both
pub fits_alike :
    {A : Type 0} (bytes : List ℕ) (locations : ℕ) (give : List ℕ → A) (deny : A) → 1 ≤ locations → locations ≤ 64
    → cond (eqb (length (fitting bytes)) locations) (give (fitting bytes)) deny
    ≡ cond (eqb (length (memory_of bytes)) locations) (give (memory_of bytes)) deny
fits_alike {A} bytes locations give deny some few = by_fit (fitting_is bytes)
  where
    asked : List ℕ → A
    asked m = cond (eqb (length m) locations) (give m) deny

    by_fit : Fitting bytes → asked (fitting bytes) ≡ asked (memory_of bytes)
    by_fit (same e) = ap asked e
    by_fit (apart e other) =
        let none_read : eqb 0 locations ≡ false = ne_eqb 0 locations (λ z. omega arith) in
        let unfit : eqb (length (memory_of bytes)) locations ≡ false =
        ne_eqb (length (memory_of bytes)) locations (λ z. other locations some few z) in
        ap asked e ∙ ap (λ t. cond t (give []) deny) none_read ∙ sym (ap (λ t. cond t (give (memory_of bytes)) deny) unfit)

-- the numbers of bytes have 32 bits
pub numbers_small :
    (bytes : List ℕ) → ((i : ℕ) → get_or bytes i 0 < 256) → (i : ℕ) → get_or (numbers_of bytes) i 0 < 2 ^ 32
unfolding numbers_of number_of
numbers_small [] h i = omega arith
numbers_small (a ∷ []) h i = omega arith
numbers_small (a ∷ b ∷ []) h i = omega arith
numbers_small (a ∷ b ∷ c ∷ []) h i = omega arith
numbers_small (a ∷ b ∷ c ∷ d ∷ rest) h zero = omega (arith, h 0, h 1, h 2, h 3)
numbers_small (a ∷ b ∷ c ∷ d ∷ rest) h (suc i) = numbers_small rest (λ k. h (suc (suc (suc (suc k))))) i

byte_off : (n : ℕ) → n ≡ n % 256 + 256 * (n / 256)
byte_off n = omega arith

four_parts :
    (n q₁ q₂ q₃ r₀ r₁ r₂ : ℕ) → n ≡ r₀ + 256 * q₁ → q₁ ≡ r₁ + 256 * q₂ → q₂ ≡ r₂ + 256 * q₃
    → r₀ + 256 * r₁ + 65536 * r₂ + 16777216 * q₃ ≡ n
four_parts n q₁ q₂ q₃ r₀ r₁ r₂ a b c = omega arith

-- a number comes back from its bytes
pub number_back : (n : ℕ) → n < 2 ^ 32 → number_of (n % 256) (n / 256 % 256) (n / 65536 % 256) (n / 16777216 % 256) ≡ n
unfolding number_of
number_back n h =
    let second : n / 65536 ≡ n / 256 / 256 = sym (div-div-eq-div-mul n 256 256) in
    let third : n / 16777216 ≡ n / 256 / 256 / 256 = sym (div-div-eq-div-mul n 65536 256) ∙ ap (λ k. k / 256) second in
    let small : n / 16777216 < 256 = omega (arith, h) in
    let last : n / 16777216 % 256 ≡ n / 256 / 256 / 256 = mod-eq_of_lt small ∙ third in
    rw (last, second)
    (four_parts n (n / 256) (n / 256 / 256) (n / 256 / 256 / 256) (n % 256) (n / 256 % 256) (n / 256 / 256 % 256)
    (byte_off n) (byte_off (n / 256)) (byte_off (n / 256 / 256)))

-- numbers of 32 bits come back from their bytes
pub numbers_back : (ns : List ℕ) → ((i : ℕ) → get_or ns i 0 < 2 ^ 32) → numbers_of (bytes_of ns) ≡ ns
unfolding numbers_of bytes_of number_bytes
numbers_back [] h = refl
numbers_back (n ∷ ns) h =
    ap (λ x. x ∷ numbers_of (bytes_of ns)) (number_back n (h 0)) ∙ ap (λ l. n ∷ l) (numbers_back ns (λ i. h (suc i)))

-- The numbers are those of the chunks of four bytes.
pub numbers_are : (bytes : List ℕ) → numbers_of bytes ≡ map (from_le_bytes w32) (first_chunks 4 (length bytes / 4) bytes)
unfolding numbers_of number_of
numbers_are [] = refl
numbers_are (a ∷ []) = refl
numbers_are (a ∷ b ∷ []) = refl
numbers_are (a ∷ b ∷ c ∷ []) = refl
numbers_are (a ∷ b ∷ c ∷ d ∷ rest) =
    let one_more : length (a ∷ b ∷ c ∷ d ∷ rest) / 4 ≡ suc (length rest / 4) = omega arith in
    let number : a + 256 * b + 65536 * c + 16777216 * d ≡ from_le_bytes w32 (a ∷ b ∷ c ∷ d ∷ []) = omega arith in
    rw one_more (cc (numbers_are rest, number))

-- what read_numbers hands back
module _ (bytes : List ℕ) (r : Numbers) (whole : length r.values ≡ 64) where
  pub read_none : r.count ≡ 0 → fitting bytes ≡ [] → Read bytes r
  read_none none e = record { whole = whole; count = omega arith; values = ap (λ k. take k r.values) none ∙ sym e }

  pub read_all :
      (fours put rest : List (List ℕ)) → fours ≡ first_chunks 4 (length bytes / 4) bytes → length fours ≡ length bytes / 4 → length bytes % 4 ≡ 0
      → length fours ≤ 64 → r.count ≡ length fours → put ≡ fours → r.values ≡ map (from_le_bytes w32) (put ++ rest) → Read bytes r
  read_all fours put rest chunks count even few all p e =
      record {
        whole = whole;
        count = omega arith;
        values =
            ap (take r.count) (e ∙ ap (λ l. map (from_le_bytes w32) (l ++ rest)) p ∙ map-append (from_le_bytes w32) fours rest)
            ∙ take_at (map (from_le_bytes w32) fours) (map (from_le_bytes w32) rest) r.count (length-map fours (from_le_bytes w32) ∙ sym all)
            ∙ ap (map (from_le_bytes w32)) chunks ∙ sym (numbers_are bytes)
            ∙ sym (fitting_short bytes (omega arith) ∙ memory_whole bytes even);
      }

bytes_append : (xs ys : List ℕ) → bytes_of (xs ++ ys) ≡ bytes_of xs ++ bytes_of ys
unfolding bytes_of
bytes_append [] ys = refl
bytes_append (x ∷ xs) ys =
    ap (λ l. number_bytes x ++ l) (bytes_append xs ys) ∙ sym (append_assoc (number_bytes x) (bytes_of xs) (bytes_of ys))

-- one number more is put
pub put_more :
    (ns out before part : List ℕ) (i k : ℕ) → i < length ns → k ≡ 4 → before ≡ bytes_of (take i ns) ++ drop (4 * i) out
    → part ≡ to_le_bytes w32 (get_or ns i 0) → put_mid (4 * i) k before part ≡ bytes_of (take (i + 1) ns) ++ drop (4 * (i + 1)) out
unfolding bytes_of number_bytes
put_more ns out before part i k h size was given =
    let front : List ℕ = bytes_of (take i ns) in
    let behind : List ℕ = drop (4 * i) out in
    let number : List ℕ = to_le_bytes w32 (get_or ns i 0) in
    let long : length front ≡ 4 * i = omega (arith, bytes_length (take i ns), length-take-le i ns (omega arith)) in
    let grown : bytes_of (take (i + 1) ns) ≡ front ++ number =
    ap bytes_of (take_more ns i 0 h) ∙ bytes_append (take i ns) (get_or ns i 0 ∷ []) in
    let rest : drop 4 (drop (4 * i) (front ++ behind)) ≡ drop (4 * (i + 1)) out =
    ap (drop 4) (drop_at front behind (4 * i) long) ∙ drop-drop 4 (4 * i) out ∙ ap (λ j. drop j out) (omega arith) in
    rw (was, given, size)
    (
    ap (λ l. l ++ (number ++ drop 4 (drop (4 * i) (front ++ behind)))) (take_at front behind (4 * i) long)
    ∙ ap (λ l. front ++ (number ++ l)) rest ∙ sym (append_assoc front number (drop (4 * (i + 1)) out))
    ∙ ap (λ l. l ++ drop (4 * (i + 1)) out) (sym grown)
    )

-- what write_numbers comes to
module _ (ns out : List ℕ) where
  pub put_short : length out / 4 < length ns → Put (bytes_of ns) out out (Err (record {}))
  unfolding at_front
  put_short h =
      let short : leb (length (bytes_of ns)) (length out) ≡ false = lt-leb (length (bytes_of ns)) (length out) (omega (arith, bytes_length ns)) in
      record { fits = sym short; places = rw short refl }

  pub put_all : (after : List ℕ) → length ns ≤ length out / 4 → after ≡ bytes_of ns ++ drop (4 * length ns) out → Put (bytes_of ns) out after (Ok tt)
  unfolding at_front
  put_all after h q =
      let room : leb (length (bytes_of ns)) (length out) ≡ true = le-leb (length (bytes_of ns)) (length out) (omega (arith, bytes_length ns)) in
      record { fits = sym room; places = rw room (q ∙ ap (λ k. bytes_of ns ++ drop k out) (sym (bytes_length ns))) }
