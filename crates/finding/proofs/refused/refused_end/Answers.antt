-- The search over the parts, from the shortest on.
-- Assumes nothing.
use Rattle.std.proofs.Common.{◌≡◌, ◌∙◌, false, true, length, take, rules, arith}
use Rattle.std.proofs.lemmas.Iterator.{first_from_Range, serves_from_Range}
use Rattle.finding.specs.Where.{is_whole, shortest_whole}
use Rattle.finding.proofs.FirstLaws.{first_found}
use Rattle.finding.proofs.refused.refused_end.Goals as goal

pub find-requires : goal.find-requires
find-requires c = record { can = tt; finite = tt; callable = serves_from_Range (λ x q k. search rules) (λ x low high. search (rules, arith)) }

pub returns : goal.returns
unfolding shortest_whole
returns c =
    let b = c.args.bytes.now in
    c.unwrap_or.ensures
    ∙ first_found (λ i. is_whole (take i b)) (length b) c.find.result
    (first_from_Range _ _ _ _ (λ i. is_whole (take i b) ≡ true) (λ i. is_whole (take i b) ≡ false) c.find.ensures.ran
    (λ x q k. search rules)
    (λ x q k. search rules))
