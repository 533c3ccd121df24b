-- By the first tally whose rounds are the span.
-- Assumes nothing.
use Rattle.std.proofs.Common.{rules, tests}
use Rattle.std.proofs.lemmas.Iterator.{first_from_find}
use Rattle.host_rounds.proofs.CountLaws.{beside, Enough, Fewer, enough_is}
use Rattle.host_rounds.proofs.table.enough.Goals as goal

pub returns : goal.returns
returns c =
    let t = c.args.table in
    let whole = t.size.long in
    enough_is t whole t.span c.find.result c.map.result
    (
    first_from_find c.find.new.self _ _ (Enough t whole t.span) (Fewer t whole t.span) c.find.ensures.ran
    (beside t whole c.zip.result (record { from = cc; to = cc; unspent = cc; tallies = cc })) (λ x q k. search (rules, tests)) (λ x q k. search (rules, tests))
    )
    (search rules)
