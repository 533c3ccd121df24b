-- The mark and the count, then item by item: the invariant says what is still to be put (WriterLaws).
-- Assumes nothing.
use Rattle.std.proofs.Common.{ℕ, ◌≡◌, ◌+◌, List, length, arith, sym, ap, ◌∙◌}
use Rattle.std.proofs.lemmas.Grind.{common_steps}
use Rattle.std.proofs.lemmas.List.Edits.{sets}
use Rattle.tasklist.specs.Encode.{joined}
use Rattle.tasklist.proofs.WriterLaws.{put_starts, put_fits, put_more, put_done, put_behind}
use Rattle.writer.proofs.rows.put_row.Goals as goal

pub loop-item-init : goal.loop-item-init
loop-item-init g c =
    let a = c.args in
    put_starts g.T.Item.bytes a.items.now c.put.new.out (a.from + 3) (omega (arith, c.put.auto.out, c.requires.room))

pub put-at-requires : goal.put-at-requires
put-at-requires g c =
    let items = c.args.items.now in
    let loop = c.loop-item in
    let item = c.item-item in
    let x = item.result in
    let there = sym item.is in
    put_fits g.T.Item.bytes items _ _ loop.out loop.at loop.item-index x (length (g.T.Item.bytes x))
    (omega arith) (ap (λ y. length (g.T.Item.bytes y)) there) loop.invariant

pub loop-item-preserved : goal.loop-item-preserved
loop-item-preserved g c =
    let items = c.args.items.now in
    let loop = c.loop-item in
    let item = c.item-item in
    let x = item.result in
    let there = sym item.is in
    rw c.put-at.ensures.end
    (put_more g.T.Item.bytes items _ _ loop.out loop.at loop.item-index x (length (g.T.Item.bytes x)) (g.T.Item.bytes x) c.put-at.new.out
    (omega arith) (ap (λ y. length (g.T.Item.bytes y)) there)
    (ap g.T.Item.bytes there) loop.invariant c.put-at.ensures.places)

pub returns-clause-end : goal.returns-clause-end
returns-clause-end g c =
    let items = c.args.items.now in
    let loop = c.loop-item in
    let done = put_done g.T.Item.bytes items _ _ loop.out loop.at loop.item-index
    (omega arith) loop.invariant in
    omega (arith, done.0)

pub returns-clause-places : goal.returns-clause-places
returns-clause-places g c =
    let a = c.args in
    let items = a.items.now in
    let loop = c.loop-item in
    let all = joined g.T.Item.bytes items in
    let count : c.unwrap_or-count.result ≡ length items = grind (arith, common_steps) in
    let done = put_done g.T.Item.bytes items _ _ loop.out loop.at loop.item-index
    (omega arith) loop.invariant in
    done.1 ∙ ap (λ (o : List ℕ). sets o (a.from + 3) all) c.put.ensures ∙ rw (c.MARK.ensures, count) (put_behind 0x4A g.T.Item.MARK (length items) a.out.now all a.from)
