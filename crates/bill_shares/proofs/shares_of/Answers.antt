-- The parts are those of the first weights.
-- Assumes nothing.
use Rattle.std.proofs.Common.{map, sym, rules}
use Rattle.std.proofs.lemmas.List.{length-map}
use Rattle.bill_shares.proofs.CodeLaws.{shares_are}
use Rattle.bill_shares.proofs.shares_of.Goals as goal

pub returns : goal.returns
returns c =
    let a = c.args in
    let parts = c.of.result in
    shares_are a.bill a.count _ a.weights (map (λ p. p.floor) parts) (map (λ p. p.remainder) parts) c.handed_out.result (search rules)
    c.of.ensures.floors c.of.ensures.remainders (sym (length-map parts (λ p. p.floor))) c.handed_out.ensures
