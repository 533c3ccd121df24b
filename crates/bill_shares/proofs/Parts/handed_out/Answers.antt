-- Share by share, with zeros behind.
-- Assumes nothing.
use Rattle.std.proofs.Common.{rules, arith, ◌-◌, ◌≡◌, ◌∙◌, map}
use lib.ListN.{length-set}
use Rattle.bill_shares.specs.Shares.{whole, listed}
use Rattle.bill_shares.proofs.CodeLaws.{given, given_is, given_fits, listed_more}
use Rattle.bill_shares.proofs.Parts.handed_out.Goals as goal

pub loop-i-init : goal.loop-i-init
unfolding listed
loop-i-init c = search rules

pub overflow_add-shares : goal.overflow_add-shares
overflow_add-shares c =
    let read = c.as_slice-part-items in
    let pence : c.saturating_sub-pence.result ≡ c.args.bill - whole (map (λ p. p.floor) c.args.self.now) = search rules in
    let fits =
    given_fits c.args.self.now read.result.now read.ensures.same c.saturating_sub-pence.result c.loop-i.i c.rank.result c.from-in-loop-i.result
    c.loop-i-test.true c.from-in-loop-i.ensures c.args.bill pence (search rules) (search rules)
    in
    omega (arith, fits)

pub loop-i-preserved : goal.loop-i-preserved
loop-i-preserved c =
    let at = c.loop-i in
    let parts = c.args.self.now in
    let read = c.as_slice-part-items in
    let value = given_is parts read.result.now read.ensures.same c.saturating_sub-pence.result at.i c.rank.result c.from-in-loop-i.result
    c.loop-i-test.true c.from-in-loop-i.ensures c.rank.ensures in (
      length-set at.shares at.i _ ∙ at.invariant.0,
      listed_more (given (map (λ p. p.floor) parts) (map (λ p. p.remainder) parts) c.saturating_sub-pence.result) at.shares at.i _ (omega arith) value at.invariant.1,
    )
