-- The rows and places of the first i children are left to put.
-- Assumes nothing.
use Rattle.std.proofs.Common.{ap, ◌∙◌, arith, unwrap_or}
use Rattle.tables.proofs.ChildLaws.{put_one, rows_put, places_put}
use Rattle.tables.proofs.children.put_children.Goals as goal

pub loop-i-preserved : goal.loop-i-preserved
loop-i-preserved c =
    let a = c.args in
    let s = a.spawner.now in
    let at = c.loop-i in
    put_one s.registers s.modes s.lines.now a.last a.at a.block.first a.block.apart a.block.children a.modes.now a.order.now
    c.requires at.i c.number-number.result at.row at.modes at.order c.unwrap_or-ahead.result c.put_row.new.modes c.insert.new.self
    at.invariant (omega arith) c.number-number.ensures c.put_row.ensures c.insert.ensures
    (λ h ms e. c.unwrap_or-ahead.ensures ∙ ap (λ o. unwrap_or o at.row) (c.row_ahead.ensures h ms e))

pub returns-clause-rows_put : goal.returns-clause-rows_put
returns-clause-rows_put c =
    let a = c.args in
    let s = a.spawner.now in
    let at = c.loop-i in
    rows_put s.registers s.modes s.lines.now a.last a.at a.block.first a.block.apart a.block.children a.modes.now a.order.now
    at.i at.row at.modes at.order at.invariant (omega arith)

pub returns-clause-places_put : goal.returns-clause-places_put
returns-clause-places_put c =
    let a = c.args in
    let s = a.spawner.now in
    let at = c.loop-i in
    places_put s.registers s.modes s.lines.now a.last a.at a.block.first a.block.apart a.block.children a.modes.now a.order.now
    at.i at.row at.modes at.order at.invariant (omega arith)
