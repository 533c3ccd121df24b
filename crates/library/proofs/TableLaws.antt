-- Laws of a table's numbers. Assumes nothing.
use Rattle.std.proofs.Common.{ℕ, suc, ◌+◌, ◌*◌, ◌/◌, ◌%◌, ◌≡◌, refl, sym, ap, ◌∙◌, List, [], ◌∷◌, arith, map, length}
use Rattle.std.specs.Prelude.{Some, None}
use Rattle.std.specs.Int.{w16, from_le_bytes}
use Rattle.std.specs.Simd.{first_chunks}
use Rattle.std.proofs.lemmas.List.{length-map}
use borrow.Author.Tests.{eq-eqb, ne_eqb}
use Rattle.library.specs.Table.{pair_of, pairs_of, table_of, ReadTable}

pub pairs_length : (bytes : List ℕ) → length (pairs_of bytes) ≡ length bytes / 2
unfolding pairs_of
pairs_length [] = refl
pairs_length (a ∷ []) = refl
pairs_length (a ∷ b ∷ rest) = omega (arith, pairs_length rest)

-- The numbers are those of the chunks of two bytes.
pub pairs_are : (bytes : List ℕ) → pairs_of bytes ≡ map (from_le_bytes w16) (first_chunks 2 (length bytes / 2) bytes)
unfolding pairs_of pair_of
pairs_are [] = refl
pairs_are (a ∷ []) = refl
pairs_are (a ∷ b ∷ rest) =
    let one_more : length (a ∷ b ∷ rest) / 2 ≡ suc (length rest / 2) = omega arith in
    let number : a + 256 * b ≡ from_le_bytes w16 (a ∷ b ∷ []) = omega arith in
    rw one_more (cc (pairs_are rest, number))

-- "wrong length": 30 bytes are a table of 15 numbers, and other bytes are none
module _ (bytes : List ℕ) where
  pub table_none : (length bytes ≡ 30 → ⊥) → table_of bytes ≡ []
  unfolding table_of
  table_none h = rw (ne_eqb (length bytes) 30 h) refl

  pub table_whole : length bytes ≡ 30 → table_of bytes ≡ pairs_of bytes
  unfolding table_of
  table_whole h = rw (eq-eqb (length bytes) 30 h) refl

  pub table_length : length bytes ≡ 30 → length (pairs_of bytes) ≡ 15
  table_length h = omega (arith, pairs_length bytes)

-- what read_table hands back
module _ (bytes : List ℕ) where
  pub read_none : (length bytes ≡ 30 → ⊥) → ReadTable bytes None
  read_none h = record { whole = tt; values = sym (table_none bytes h) }

  pub read_all :
      (values : List ℕ) (pairs : List (List ℕ)) → pairs ≡ first_chunks 2 (length bytes / 2) bytes → length pairs ≡ length bytes / 2
      → length bytes % 2 ≡ 0 → length pairs ≡ 15 → values ≡ map (from_le_bytes w16) pairs → ReadTable bytes (Some values)
  read_all values pairs chunks count even long e =
      record {
        whole = ap length e ∙ length-map pairs (from_le_bytes w16) ∙ long;
        values = e ∙ ap (map (from_le_bytes w16)) chunks ∙ sym (pairs_are bytes) ∙ sym (table_whole bytes (omega arith));
      }
