use Rattle.std.proofs.Common.{◌∙◌, rules, tests}
use Rattle.std.proofs.lemmas.Iterator.{YieldsList-from_slice}
use Rattle.std.proofs.lemmas.Iterator.Search.{all_from_yields_List}
use Rattle.semantics.specs.Run.{is_weight}
use Rattle.fresh.proofs.WeightLaws.{every_is_all}
use Rattle.fresh.proofs.opening.all_weights.Goals as goal

pub returns : goal.returns
unfolding is_weight
returns c =
    let ws = c.args.numbers.now in
    all_from_yields_List is_weight _ _ _ c.all.ensures.ran (YieldsList-from_slice ws cc) (λ x b q k. search (rules, tests))
    ∙ every_is_all ws
