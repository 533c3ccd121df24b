-- Too short a slice is left alone; else one number is put behind the other.
-- Assumes nothing.
use Rattle.std.proofs.Common.{◌≡◌, ◌*◌, ◌++◌, ◌∙◌, List, ℕ, length, take, drop, refl, arith, ap}
use lib.Seq.{take_all}
use Rattle.library.specs.Library.{bytes_of}
use Rattle.library.proofs.LibraryLaws.{put_short, put_more, put_all}
use Rattle.library.proofs.writing.write_numbers.Goals as goal

pub returns-then-out-numbers : goal.returns-then-out-numbers
returns-then-out-numbers c = put_short _ _ c.if-out-numbers.true

pub loop-i-init : goal.loop-i-init
unfolding bytes_of
loop-i-init c = refl

pub loop-i-preserved : goal.loop-i-preserved
loop-i-preserved c =
    let l = c.loop-i in
    put_more c.args.numbers.now c.args.out.now l.out _ l.i _ c.loop-i-test.true (omega arith) l.invariant
    (c.copy_from_slice.ensures.after ∙ c.to_le_bytes.ensures)

pub returns : goal.returns
returns c =
    let numbers : List ℕ = c.args.numbers.now in
    let out : List ℕ = c.args.out.now in
    let done : c.loop-i.i ≡ length numbers = omega arith in
    put_all numbers out _ c.if-out-numbers.false
    (
    c.loop-i.invariant ∙ ap (λ k. bytes_of (take k numbers) ++ drop (4 * k) out) done
    ∙ ap (λ l. bytes_of l ++ drop (4 * length numbers) out) (take_all (length numbers) numbers (omega arith))
    )
