-- Laws of the parts at the front of the bytes. Assumes nothing.
use Rattle.std.proofs.Common.{ℕ, ◌≡◌, ◌+◌, ◌*◌, ◌/◌, ◌≤◌, ◌<◌, List, [], ◌∷◌, ◌++◌, length, take, drop, map, get_or, set, min, refl, sym, ap, ◌∙◌, arith}
use Rattle.std.specs.Prelude.{Some, None}
use Rattle.std.specs.Int.{w16, w32, from_le_bytes}
use Rattle.std.specs.Simd.{first_chunks}
use Rattle.std.proofs.lemmas.List.{take_more, take_more_set, take_min, get_or-map, get_or-take, length-map}
use borrow.Author.Tests.{lt-leb, le-leb}
use Rattle.casecheck.specs.File.{split, part, words_of}

-- no count
pub part_short : (width : ℕ) (b : List ℕ) → length b < 2 → part width b ≡ None
unfolding part
part_short width [] h = refl
part_short width (low ∷ []) h = refl
part_short width (low ∷ high ∷ rest) h = absurd (omega arith)

-- a count, and as many places or fewer
pub part_long : (width : ℕ) (b : List ℕ) → 2 ≤ length b → part width b ≡ split (from_le_bytes w16 (take 2 b) * width) (drop 2 b)
unfolding part
part_long width [] h = absurd (omega arith)
part_long width (low ∷ []) h = absurd (omega arith)
part_long width (low ∷ high ∷ rest) h =
    let same : 256 * high ≡ high * 256 = omega arith in
    ap (λ n. split ((low + n) * width) rest) same

-- where there are as many
pub split_at : (n : ℕ) (b : List ℕ) → n ≤ length b → split n b ≡ Some (take n b, drop n b)
split_at n b h = rw (le-leb n (length b) h) refl

pub split_none : (n : ℕ) (b : List ℕ) → length b < n → split n b ≡ None
split_none n b h = rw (lt-leb n (length b) h) refl

-- the numbers are those of the chunks of four bytes
module _ (bytes : List ℕ) (fours : List (List ℕ)) (chunks : fours ≡ first_chunks 4 (length bytes / 4) bytes) where
  words_are : words_of bytes ≡ map (from_le_bytes w32) fours
  words_are = ap (map (from_le_bytes w32)) (sym chunks)

  words_length : length (words_of bytes) ≡ length fours
  words_length = ap length words_are ∙ length-map fours (from_le_bytes w32)

  -- one more is put
  pub words_more :
      (room : List ℕ) (none : List ℕ) (count i n : ℕ) → i < length room → i < count → i < length fours
      → take i room ≡ take i (words_of bytes) → n ≡ from_le_bytes w32 (get_or (take count fours) i none)
      → take (i + 1) (set room i n) ≡ take (i + 1) (words_of bytes)
  words_more room none count i n fits few some same number =
      let there : i < length (words_of bytes) = omega (arith, words_length) in
      let next : n ≡ get_or (words_of bytes) i 0 =
      number ∙ ap (from_le_bytes w32) (get_or-take count fours i none few) ∙ sym (get_or-map (from_le_bytes w32) fours i none 0 some)
      ∙ ap (λ l. get_or l i 0) (sym words_are) in
      take_more_set room i n fits ∙ ap (λ l. l ++ n ∷ []) same ∙ ap (λ k. take i (words_of bytes) ++ k ∷ []) next
      ∙ sym (take_more (words_of bytes) i 0 there)

  -- all that there is room for are put
  pub words_whole : (room : List ℕ) (i most : ℕ) → i ≡ min most (length fours) → take i room ≡ take i (words_of bytes) → take i room ≡ take most (words_of bytes)
  words_whole room i most all same =
      same ∙ ap (λ k. take k (words_of bytes)) (all ∙ ap (min most) (sym words_length)) ∙ take_min most (words_of bytes)
