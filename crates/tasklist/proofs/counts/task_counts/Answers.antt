-- From the last body to the first: the table has the counts of the bodies behind (CountLaws).
-- Assumes nothing.
use Rattle.std.proofs.Common.{ℕ, ◌≡◌, ◌+◌, ◌-◌, ◌*◌, ◌<◌, min, length, get_or, take, drop, suc, length-set, arith, refl, sym, ap, ◌∙◌}
use Rattle.std.proofs.lemmas.List.{get_or-take}
use Rattle.tasklist.specs.TaskList.{adds, count_body, blank_instruction}
use Rattle.tasklist.specs.Tables.{capped}
use Rattle.tasklist.proofs.PlaceLaws.{rows_at, rows_count}
use Rattle.tasklist.proofs.CountLaws.{sum_starts, sum_more, sum_whole, Known, known_from, known_starts, known_more, known_whole}
use Rattle.tasklist.proofs.counts.task_counts.Invariants.{bodies_of}
use Rattle.tasklist.proofs.counts.task_counts.Goals as goal

pub loop-s-init : goal.loop-s-init
loop-s-init c =
    let a = c.args in
    let bodies = bodies_of a.bodies a.sizes.now a.cells.now in
    record {
      whole = refl;
      known = known_starts bodies 32 c.min-s.result
          (omega (arith, c.min-s.ensures, rows_count 32 a.bodies a.sizes.now a.cells.now c.told-sizes));
    }

pub loop-instruction-init : goal.loop-instruction-init
loop-instruction-init c =
    let a = c.args in
    let s = c.loop-s.s - 1 in
    record { most = omega arith; sum = sum_starts (known_from (bodies_of a.bodies a.sizes.now a.cells.now) (suc s)) _ }

pub loop-instruction-preserved : goal.loop-instruction-preserved
loop-instruction-preserved c =
    let a = c.args in
    let loop = c.loop-s in
    let within = c.loop-instruction in
    let s = loop.s - 1 in
    let cells = take (32 * s + c.min-size.result - 32 * s) (drop (32 * s) a.cells.now) in
    let bodies = bodies_of a.bodies a.sizes.now a.cells.now in
    let next : loop.s ≡ suc s = omega arith in
    let known : Known bodies (suc s) loop.known = rw next at loop.invariant.known in
    let x = get_or cells within.instruction-index blank_instruction in
    let there : within.instruction-index < length cells = c.loop-instruction-test.true in
    let q : c.counted-n.result ≡ capped (within.n + adds (λ (k : ℕ). get_or loop.known k 1) x) = c.counted-n.ensures in
    let more = sum_more (known_from bodies (suc s)) cells (count_body (known_from bodies (suc s)) cells)
    loop.known within.n within.instruction-index x known there refl within.invariant.sum in
    record { most = omega arith; sum = rw q more }

pub loop-s-preserved : goal.loop-s-preserved
loop-s-preserved c =
    let a = c.args in
    let loop = c.loop-s in
    let within = c.loop-instruction in
    let s = loop.s - 1 in
    let cells = take (32 * s + c.min-size.result - 32 * s) (drop (32 * s) a.cells.now) in
    let bodies = bodies_of a.bodies a.sizes.now a.cells.now in
    let next : loop.s ≡ suc s = omega arith in
    let known : Known bodies (suc s) loop.known = rw next at loop.invariant.known in
    let many = rows_count 32 a.bodies a.sizes.now a.cells.now c.told-sizes in
    let used = get_or-take a.bodies a.sizes.now s 0 (omega arith) in
    let size : 32 * s + c.min-size.result - 32 * s ≡ min (get_or (take a.bodies a.sizes.now) s 0) 32 = omega (arith, used) in
    let row = rows_at 32 (take a.bodies a.sizes.now) a.cells.now s ∙ ap (λ (n : ℕ). take n (drop (32 * s) a.cells.now)) (sym size) in
    let whole : within.instruction-index ≡ length cells = omega arith in
    let sum : within.n ≡ capped (count_body (known_from bodies (suc s)) cells) =
    sum_whole (known_from bodies (suc s)) cells (count_body (known_from bodies (suc s)) cells)
    within.n within.instruction-index within.invariant.most whole within.invariant.sum in
    record {
      whole = length-set loop.known s within.n ∙ loop.invariant.whole;
      known = known_more bodies s within.n loop.known (omega arith) (omega arith) known (rw (sym row) at sum);
    }

pub returns : goal.returns
returns c =
    let a = c.args in
    let none : c.loop-s.s ≡ 0 = omega arith in
    known_whole (bodies_of a.bodies a.sizes.now a.cells.now) c.loop-s.known (rw none at c.loop-s.invariant.known)
