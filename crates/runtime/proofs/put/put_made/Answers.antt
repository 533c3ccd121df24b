use Rattle.std.proofs.Common.{◌≡◌, ◌+◌, ◌-◌, ◌*◌, arith}
use Rattle.steps.proofs.ChildrenLaws.{child_written, children_written}
use Rattle.runtime.proofs.put.put_made.Goals as goal

pub loop-i-preserved : goal.loop-i-preserved
loop-i-preserved c =
    let made = c.args.made.now in
    let l = c.loop-i in
    let at : c.number.result ≡ made.block.first + (l.i - 1) * made.block.apart = omega (arith, c.requires.near (l.i - 1)) in
    rw at
    (child_written made.block.first made.block.apart made.record made.block.children _ l.i l.records c.loop-i-test.true l.invariant
    c.child_record.result (rw c.from.ensures at c.child_record.ensures))

pub returns : goal.returns
returns c =
    let made = c.args.made.now in
    let l = c.loop-i in
    children_written made.block.first made.block.apart made.record made.block.children _ l.i l.records c.loop-i-test.false l.invariant
