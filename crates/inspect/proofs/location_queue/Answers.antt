-- Outside the list, too short, or put. Assumes nothing.
use Rattle.std.proofs.Common.{◌≡◌, ◌++◌, ap, ◌∙◌, length, drop, arith, rules}
use Rattle.inspect.proofs.AskLaws.{queue_outside, queue_short, queue_put}
use Rattle.inspect.proofs.location_queue.Goals as goal

pub returns-then-from-location : goal.returns-then-from-location
returns-then-from-location c =
    queue_outside c.args.run c.args.location c.args.out.now (omega (arith, c.from.ensures, c.if-from-location.true))

pub returns-then-out-places : goal.returns-then-out-places
returns-then-out-places c =
    let run = c.args.run in
    let records : length run.records ≡ 128 = search rules in
    let modes : length run.modes ≡ 8192 = search rules in
    queue_short run c.args.location c.args.out.now (omega (arith, c.from.ensures, c.if-from-location.false)) records modes
    (omega (arith, ap length (c.as_slice-places.ensures ∙ c.of-queue.ensures), c.if-out-places.true))

pub returns : goal.returns
returns c =
    let run = c.args.run in
    let out = c.args.out.now in
    let places = c.as_slice-places in
    let records : length run.records ≡ 128 = search rules in
    let modes : length run.modes ≡ 8192 = search rules in
    queue_put run c.args.location out (omega (arith, c.from.ensures, c.if-from-location.false)) records modes _ places.result.now
    (places.ensures ∙ c.of-queue.ensures) c.if-out-places.false (ap (λ l. l ++ drop (length places.result.now) out) c.copy_from_slice.ensures.after)
