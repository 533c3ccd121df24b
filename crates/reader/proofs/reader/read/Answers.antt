-- No bytes; or the head, the footprints, the bodies, what is left over, then the count: each return by the law of its stage.
-- Assumes nothing.
use Rattle.std.proofs.Common.{ℕ, ◌≡◌, List, length, false, eqb, arith, rules, sym}
use Rattle.std.proofs.lemmas.Bool.Decides.{nat_tests}
use Rattle.std.proofs.lemmas.Result.{err_from_is_err_and}
use Rattle.tasklist.specs.Decode.{footprint, body}
use Rattle.tasklist.specs.Tables.{list_of}
use Rattle.tasklist.specs.TaskList.{task_count}
use Rattle.tasklist.proofs.PlaceLaws.{get_d_default}
use Rattle.tasklist.proofs.ReaderLaws.{head_range}
use Rattle.reader.proofs.ReadingLaws.{head_bad, footprints_bad, bodies_bad, left_over, whole, too_many, accepted_reading}
use Rattle.reader.proofs.reader.read.Goals as goal

some : (b : List ℕ) → false ≡ eqb (length b) 0 → length b ≡ 0 → ⊥
some b t z = grind (arith, nat_tests)

pub returns-in_err-head : goal.returns-in_err-head
returns-in_err-head c =
    let p = err_from_is_err_and c.from_residual.result c.from_residual.ensures.1 in
    rw (p.1, p.2) (head_bad _ (some _ c.if-is_empty.ensures) _ c.in_err-head.ensures)

pub read_rows-requires-clause-few : goal.read_rows-requires-clause-few
read_rows-requires-clause-few c = (head_range _ _ _ (sym c.in_ok-head.ensures)).footprints.most

pub returns-in_err-rest : goal.returns-in_err-rest
unfolding footprint
returns-in_err-rest c =
    let p = err_from_is_err_and c.from_residual-in_err-rest.result c.from_residual-in_err-rest.ensures.1 in
    rw (p.1, p.2) (footprints_bad _ (some _ c.if-is_empty.ensures) c.in_ok-head.ensures _ c.in_err-rest.ensures)

pub read_rows-requires-2-clause-few : goal.read_rows-requires-2-clause-few
read_rows-requires-2-clause-few c = (head_range _ _ _ (sym c.in_ok-head.ensures)).bodies.most

pub returns-in_err-rest-2 : goal.returns-in_err-rest-2
unfolding footprint body
returns-in_err-rest-2 c =
    let p = err_from_is_err_and c.from_residual-in_err-rest-2.result c.from_residual-in_err-rest-2.ensures.1 in
    rw (p.1, p.2) (bodies_bad _ (some _ c.if-is_empty.ensures) c.in_ok-head.ensures c.in_ok-rest.ensures _ c.in_err-rest-2.ensures)

pub returns-then-not-is_empty : goal.returns-then-not-is_empty
unfolding footprint body
returns-then-not-is_empty c =
    left_over _ (some _ c.if-is_empty.ensures) c.in_ok-head.ensures c.in_ok-rest.ensures c.in_ok-rest-2.ensures
    (search (rules, nat_tests))

pub returns-then-tables-gt128 : goal.returns-then-tables-gt128
unfolding footprint body task_count
returns-then-tables-gt128 c =
    let count = rw c.from.ensures at (c.task_counts-tables.ensures 0) in
    let first = get_d_default c.task_counts-tables.result 0 0 1 (search rules) in
    whole _ (some _ c.if-is_empty.ensures) c.in_ok-head.ensures c.in_ok-rest.ensures c.in_ok-rest-2.ensures _ (search (rules, nat_tests))
    (too_many _ (omega (arith, count, first)))

pub returns : goal.returns
unfolding footprint body task_count list_of
returns c =
    let counts = rw c.from.ensures at c.task_counts-tables.ensures in
    let first = get_d_default c.task_counts-tables.result 0 0 1 (search rules) in
    whole _ (some _ c.if-is_empty.ensures) c.in_ok-head.ensures c.in_ok-rest.ensures c.in_ok-rest-2.ensures _ (search (rules, nat_tests))
    (accepted_reading _ (omega (arith, first, c.if-tables-gt128.false)) counts)
