-- The first numbers are those of the bytes; a length that fits no list gives none.
-- Assumes nothing.
use Rattle.std.proofs.Common.{◌≡◌, ◌%◌, length, [], refl, length-append, length-drop, arith, rules}
use Rattle.std.specs.Int.{w32, from_le_bytes}
use Rattle.std.proofs.lemmas.Bool.Decides.{nat_tests}
use Rattle.library.proofs.MapLaws.{mapped}
use Rattle.library.proofs.LibraryLaws.{read_none, read_all, fitting_long, fitting_odd}
use Rattle.library.proofs.reading.read_numbers.Goals as goal
use Rattle.library.proofs.reading.read_numbers.Goals.{then-read-gt64-via-then-read-gt64, then-read-gt64-via-else-read-gt64+then-not-is_empty}

pub returns-then-read-gt64 : goal.returns-then-read-gt64
returns-then-read-gt64 c =
    let bytes = c.args.bytes.now in
    read_none bytes _ (search rules) refl
    (elim c.then-read-gt64.branch [
      | then-read-gt64-via-then-read-gt64 w ↦ fitting_long bytes (omega arith)
      | then-read-gt64-via-else-read-gt64+then-not-is_empty w ↦ fitting_odd bytes (λ z. grind (arith, nat_tests))
    ])

pub returns : goal.returns
returns c =
    let fours = c.as_chunks.result.0.now in
    let even : length c.args.bytes.now % 4 ≡ 0 = grind (arith, nat_tests) in
    read_all c.args.bytes.now _ (search rules) fours c.copy_from_slice.new.self _ c.as_chunks.ensures.front c.as_chunks.ensures.front_len even
    c.if-read-gt64.false refl c.copy_from_slice.ensures.after
    (mapped _ _ (from_le_bytes w32) [] _ c.map.result 64 c.map.ensures.items (search (rules, length-append, length-drop)) (λ p q x y h. search rules))
