-- At most 128 numbers of 32 bits.
use Rattle.std.proofs.Common.{sym, ◌∙◌, rules, arith, take, length-take}
use borrow.Author.Tests.{tests}
use Rattle.std.proofs.lemmas.Iterator.{YieldsList-from_slice, YieldsList-from_take, YieldsList-from_map}
use Rattle.std.proofs.lemmas.Iterator.Adapters.{fits_from_length, at_most_from_yields_List}
use Rattle.std.proofs.lemmas.Iterator.Consumers.{sum_by_from_yields_List}
use Rattle.bill_shares.proofs.ShareLaws.{whole_is_sum}
use Rattle.bill_shares.proofs.whole_of.Goals as goal

pub sum-requires-clause-fits : goal.sum-requires-clause-fits
sum-requires-clause-fits c =
    fits_from_length _ _ 128 _ (at_most_from_yields_List (YieldsList-from_take c.args.count (YieldsList-from_slice c.args.values cc) cc) (omega (arith, length-take c.args.count c.args.values)))
    c.map.ensures.closure (omega arith) (λ x r q k. search (rules, tests))

pub returns : goal.returns
returns c =
    let front = take c.args.count c.args.values in
    sum_by_from_yields_List (λ x. x) front _ c.sum.result c.sum.ensures.ran
    (YieldsList-from_map _ (λ x. x) (YieldsList-from_take c.args.count (YieldsList-from_slice c.args.values cc) cc) c.map.ensures.closure (λ x r q k. search rules))
    ∙ sym (whole_is_sum front)
