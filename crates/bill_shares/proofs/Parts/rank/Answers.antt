-- A 1 for each part that comes before. Assumes nothing.
use Rattle.std.proofs.Common.{◌∙◌, rules}
use mir.Val.{bool_byte}
use Rattle.std.specs.List.{enumerate_from}
use Rattle.std.proofs.lemmas.Iterator.{YieldsList-from_slice, YieldsList-from_map}
use Rattle.std.proofs.lemmas.Iterator.Consumers.{sum_by_from_yields_List, YieldsList-from_enumerate}
use Rattle.bill_shares.proofs.CodeLaws.{before, rank_counted}
use Rattle.bill_shares.proofs.Parts.rank.Goals as goal

pub returns : goal.returns
returns c = λ h q.
    let parts = c.args.self.now in
    sum_by_from_yields_List (λ q. bool_byte (before parts c.args.i c.args.mine q)) (enumerate_from 0 parts) _ c.sum.result c.sum.ensures.ran
    (YieldsList-from_map _ (λ q. bool_byte (before parts c.args.i c.args.mine q)) (YieldsList-from_enumerate (YieldsList-from_slice parts cc) cc) c.map.ensures.closure (λ x r q k. search rules))
    ∙ rank_counted parts c.args.i h c.args.mine q
