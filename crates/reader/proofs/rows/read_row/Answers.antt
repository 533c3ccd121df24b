-- Item by item (RowLaws).
-- Assumes nothing.
use Rattle.std.proofs.Common.{arith, refl, sym, ◌∙◌, add-one, length-set}
use lib.Seq.{take-suc-set}
use Rattle.std.proofs.lemmas.List.{take_all}
use Rattle.std.proofs.lemmas.Result.{err_from_is_err_and}
use Rattle.reader.proofs.RowLaws.{taking_opens, taking_stops, taking_more, taking_closes}
use Rattle.reader.proofs.rows.read_row.Goals as goal

pub loop-place-init : goal.loop-place-init
loop-place-init g c = record { whole = refl; so_far = taking_opens _ _ _ }

pub loop-place-preserved : goal.loop-place-preserved
loop-place-preserved g c =
    let loop = c.loop-place in
    let item = c.in_ok-item in
    record {
      whole = length-set loop.items loop.place item.item ∙ loop.invariant.whole;
      so_far = taking_more loop.invariant.so_far item.item item.behind.now _ c.loop-place-test.true (sym item.ensures) (rw (add-one loop.place) (take-suc-set loop.items loop.place item.item (omega arith)));
    }

pub returns-in_err-item : goal.returns-in_err-item
returns-in_err-item g c =
    let p = err_from_is_err_and c.from_residual.result c.from_residual.ensures.1 in
    rw (p.1, p.2) (taking_stops c.loop-place.invariant.so_far _ c.loop-place-test.true (sym c.in_err-item.ensures))

pub returns : goal.returns
returns g c =
    let loop = c.loop-place in
    taking_closes loop.invariant.so_far loop.items c.loop-place-test.false (take_all loop.place loop.items (omega arith))
