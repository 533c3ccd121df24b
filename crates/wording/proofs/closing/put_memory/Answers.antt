-- Each location on a line of its own.
-- Assumes nothing.
use Rattle.std.proofs.Common.{ℕ, ◌+◌, ◌≤◌, ◌≡◌, ap, length, arith, rules, refl}
use lib.ListN.{length-take}
use Rattle.plans.specs.View.{model as parts_model}
use Rattle.wording.proofs.JoinedLaws.{joined_none, joined_more, joined_all}
use Rattle.wording.proofs.closing.put_memory.Goals as goal

pub loop-number-init : goal.loop-number-init
loop-number-init c = joined_none _ _ _ _ _

pub loop-number-preserved : goal.loop-number-preserved
loop-number-preserved c =
    let l = c.loop-number in
    let whole : length c.args.run.memory ≡ 64 = search rules in
    let room : l.at + 11 ≤ length l.out =
    omega (arith, l.invariant.few, l.invariant.put.long, ap length c.entries-number-items.ensures, length-take {A = ℕ} c.args.run.tables.locations c.args.run.memory) in
    joined_more _ _ _ _ _ l.invariant c.loop-number-test.true 0 (c.put_number-at.ensures.room room) (c.put_number-at.ensures.most room) refl

pub returns : goal.returns
unfolding parts_model
returns c =
    let whole : length c.args.run.memory ≡ 64 = search rules in
    let few : length c.entries-number-items.result.now ≤ 64 =
    omega (arith, ap length c.entries-number-items.ensures, length-take {A = ℕ} c.args.run.tables.locations c.args.run.memory) in
    let all = joined_all _ _ _ _ _ c.loop-number.invariant c.loop-number-test.false in
    record { put = rw (← c.entries-number-items.ensures) all.0; most = omega (arith, all.1, few) }
