-- Each weight's part, and the parts of the weights that count.
use Rattle.std.proofs.Common.{ℕ, rules, ◌*◌, ◌/◌, ◌%◌, ◌≤◌, ◌<◌, ◌≡◌, ◌∙◌, get_or, length-set, arith}
use Rattle.bill_shares.specs.Shares.{floors, remainders}
use Rattle.bill_shares.proofs.CodeLaws.{parts_are, comes_next}
use Rattle.bill_shares.proofs.Parts.of.Goals as goal

pub loop-i-init : goal.loop-i-init
loop-i-init c = (search rules, λ k h. absurd (omega arith))

pub loop-i-preserved : goal.loop-i-preserved
loop-i-preserved c =
    let at = c.loop-i in (
      length-set at.parts at.i _ ∙ at.invariant.0,
      comes_next c.args.bill c.whole_of-all.result c.args.weights at.parts c.part_of.result at.i (omega (arith, at.invariant.0)) at.invariant.1
          (λ h. (c.part_of.ensures.floor h, c.part_of.ensures.remainder h)),
    )

pub returns-clause-floors : goal.returns-clause-floors
unfolding floors
returns-clause-floors c =
    let a = c.args in
    let at = c.loop-i in
    rw (c.min-count.ensures, ← c.whole_of-all.ensures)
    (parts_are a.count a.weights at.parts (search rules) at.invariant.0 (λ p. p.floor) (λ w. a.bill * w / c.whole_of-all.result)
    (λ k h l. (at.invariant.1 k (omega arith) (rw c.whole_of-all.ensures l)).0))

pub returns-clause-remainders : goal.returns-clause-remainders
unfolding remainders
returns-clause-remainders c =
    let a = c.args in
    let at = c.loop-i in
    rw (c.min-count.ensures, ← c.whole_of-all.ensures)
    (parts_are a.count a.weights at.parts (search rules) at.invariant.0 (λ p. p.remainder) (λ w. a.bill * w % c.whole_of-all.result)
    (λ k h l. (at.invariant.1 k (omega arith) (rw c.whole_of-all.ensures l)).1))
