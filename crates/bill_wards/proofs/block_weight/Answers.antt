-- Task by task, modulo 2^32. Assumes nothing.
use Rattle.std.proofs.Common.{ℕ, ◌≡◌, ◌∙◌, ◌-◌, ◌%◌, ◌^◌, ap, refl, List, length, take, drop, arith, rules}
use Rattle.std.specs.List.{sum_by, range_with_len}
use Rattle.std.specs.Iterator.Adapters.{take_steps}
use Rattle.std.proofs.iter.Yields.{nat_range_steps}
use Rattle.std.proofs.lemmas.Fn.{fold_over}
use Rattle.std.proofs.lemmas.Iterator.{YieldsList-from_range, YieldsList-from_take}
use Rattle.tasklist.specs.TaskList.{total}
use Rattle.semantics.specs.Sound.{weighs}
use Rattle.runtime.specs.View.{model}
use Rattle.bill_wards.proofs.BlockLaws.{block_more, block_whole}
use Rattle.bill_wards.proofs.TurnLaws.{tasks_whole}
use Rattle.bill_wards.proofs.block_weight.Goals as goal

pub returns : goal.returns
returns c =
    let a = c.args in
    let whole : length a.run.records ≡ 128 = search rules in
    let ts = (model a.run).tasks in
    let weight = λ (k : ℕ). total weighs (take 1 (drop k ts)) in
    let J = λ (ks : List ℕ) (sum : ℕ). sum ≡ sum_by weight ks % 2 ^ 32 in
    let ks = take a.size (range_with_len c.from.result (c.from-2.result - c.from.result)) in
    let made : J ks c.fold.result =
    fold_over (take_steps nat_range_steps) (λ k. k) _ J _ (λ ks sum k next f h m. (block_more weight ks sum k next h (search rules), search rules)) c.take-block.result ks 0 c.fold.result
    (YieldsList-from_take {s = c.take-block.result} a.size (YieldsList-from_range c.from.result c.from-2.result (c.from-2.result - c.from.result) c.take-block.ensures.source refl) cc).runs (search rules) c.fold.ensures.ran in
    made ∙ ap (λ x. x % 2 ^ 32) (rw c.from.ensures (block_whole ts a.size a.n (c.from-2.result - a.n) (omega (arith, tasks_whole a.run whole, c.from-2.ensures))))
