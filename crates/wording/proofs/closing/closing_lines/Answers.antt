-- The memory, then the totals.
-- Assumes nothing.
use Rattle.std.proofs.Common.{ℕ, ◌≤◌, ◌≡◌, ap, ◌∙◌, length, arith}
use Rattle.std.proofs.lemmas.Grind.{common_steps}
use lib.ListN.{length-take}
use Rattle.wording.proofs.WroteLaws.{no_room, wrote_none}
use Rattle.wording.proofs.ClosingLaws.{closed}
use Rattle.wording.proofs.closing.closing_lines.Goals as goal

pub returns-then-out-lt737 : goal.returns-then-out-lt737
returns-then-out-lt737 c = wrote_none _ _ (no_room 737 c.args.out.now _ c.if-out-lt737.true)

pub returns : goal.returns
returns c =
    let run = c.args.run in
    let memory = c.put_memory-at in
    let totals = c.put_totals in
    let few : length c.as_slice.result.now ≤ 128 = omega (arith, ap length c.as_slice.ensures, length-take {A = ℕ} run.order.left run.order.places, run.order.whole) in
    let left : c.unwrap_or-left.result ≡ length c.as_slice.result.now = grind (arith, common_steps) in
    closed run c.args.out.now memory.new.out totals.new.out memory.result totals.result c.unwrap_or-left.result (left ∙ ap length c.as_slice.ensures)
    c.if-out-lt737.false memory.ensures.put memory.ensures.most totals.ensures.put totals.ensures.most
