-- One task's weight, or none. Assumes nothing.
use Rattle.std.proofs.Common.{◌≡◌, length, rules}
use Rattle.bill_wards.proofs.TurnLaws.{weight_told}
use Rattle.bill_wards.proofs.task_weight.Goals as goal

pub returns : goal.returns
returns c =
    let run = c.args.run in
    let whole : length run.records ≡ 128 = search rules in
    weight_told run c.args.n whole c.task_record.result c.task_record.ensures c.map_or.result (search rules)
