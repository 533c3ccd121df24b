-- Row by row (RowLaws).
-- Assumes nothing.
use Rattle.std.proofs.Common.{ℕ, ◌≡◌, ◌*◌, ◌+◌, ◌≤◌, arith, rules, sym, ◌∙◌, length, take}
use Rattle.std.specs.List.{between}
use Rattle.std.proofs.lemmas.List.Edits.{length-between}
use Rattle.std.proofs.lemmas.Result.{err_from_is_err_and}
use Rattle.tasklist.specs.Tables.{rows}
use Rattle.tasklist.proofs.TakenLaws.{counted_most}
use Rattle.reader.proofs.RowLaws.{taking_opens, taking_stops, taking_more, taking_closes, counted_row, uncounted_row, row_fits, row_put}
use Rattle.reader.proofs.rows.read_rows.Given.{Over}
use Rattle.reader.proofs.rows.read_rows.Goals.{After-from}
use Rattle.reader.proofs.rows.read_rows.Goals as goal

pub loop-s-init : goal.loop-s-init
unfolding rows
loop-s-init g c = taking_opens _ _ _

pub returns-in_err-count : goal.returns-in_err-count
returns-in_err-count g c =
    let count = rw (c.MARK.ensures, c.WIDTH-in-loop-s.ensures, c.REFUSAL.ensures) at (sym c.in_err-count.ensures) in
    let p = err_from_is_err_and c.from_residual.result c.from_residual.ensures.1 in
    rw (p.1, p.2) (taking_stops c.loop-s.invariant _ (omega arith) (uncounted_row _ _ _ _ _ _ count))

-- the row stands within the table
record Row (w s n room : ℕ) : Type 0 where
  few : n ≤ w
  fits : w * s + n ≤ room

inside : (g : Over) (c : After-from g) → Row g.T.Item.WIDTH c.loop-s.s c.in_ok-count.count (length c.loop-s.items)
inside g c =
    let w = g.T.Item.WIDTH in
    let n = c.in_ok-count.count in
    let counted : n ≤ c.WIDTH-in-loop-s.result = counted_most _ _ _ _ _ _ (sym c.in_ok-count.ensures) in
    let few : n ≤ w = omega (arith, c.WIDTH-in-loop-s.ensures) in
    record { few = few; fits = omega (arith, row_fits w c.loop-s.s n 32 (omega arith) few, c.requires.room) }

pub slice_bounds-row-end : goal.slice_bounds-row-end
slice_bounds-row-end g c =
    let fits = rw (← c.WIDTH.ensures, ← c.from-width.ensures) at (inside g c).fits in
    search rules

-- and has as many places as were counted
size_of : (g : Over) (c : After-from g)
    → let first = c.from-width.result * c.loop-s.s in
    length (between first (first + c.from.result) c.loop-s.items) ≡ c.in_ok-count.count
size_of g c =
    let first = c.from-width.result * c.loop-s.s in
    let fits : first + c.in_ok-count.count ≤ length c.loop-s.items = rw (← c.WIDTH.ensures, ← c.from-width.ensures) at (inside g c).fits in
    length-between c.loop-s.items first (first + c.from.result) (omega arith) ∙ omega arith

pub returns-in_err-rest : goal.returns-in_err-rest
returns-in_err-rest g c =
    let size = size_of g (goal.at.returns-in_err-rest g c).After-from in
    let count = rw (c.MARK.ensures, c.WIDTH-in-loop-s.ensures, c.REFUSAL.ensures) at (sym c.in_ok-count.ensures) in
    let p = err_from_is_err_and c.from_residual-in_err-rest.result c.from_residual-in_err-rest.ensures.1 in
    rw (p.1, p.2) (taking_stops c.loop-s.invariant _ (omega arith) (counted_row _ _ _ _ _ _ _ count ∙ sym (rw size at c.in_err-rest.ensures)))

pub loop-s-preserved : goal.loop-s-preserved
loop-s-preserved g c =
    let loop = c.loop-s in
    let at = inside g (goal.at.loop-s-preserved g c).After-from in
    let size = size_of g (goal.at.loop-s-preserved g c).After-from in
    let count = rw (c.MARK.ensures, c.WIDTH-in-loop-s.ensures, c.REFUSAL.ensures) at (sym c.in_ok-count.ensures) in
    taking_more loop.invariant c.read_row.new.items c.in_ok-rest.rest.now _ (omega arith)
    (counted_row _ _ _ _ _ _ _ count ∙ sym (rw size at c.in_ok-rest.ensures))
    (rw (c.from.ensures, c.from-width.ensures, c.WIDTH.ensures)
    (row_put g.T.Item.WIDTH loop.s c.in_ok-count.count loop.sizes loop.items c.read_row.new.items (omega arith) at.few at.fits (c.read_row.auto.items ∙ size)))

pub returns : goal.returns
returns g c =
    let loop = c.loop-s in
    let last : loop.s ≡ c.args.used = omega arith in
    taking_closes loop.invariant (rows g.T.Item.WIDTH (take c.args.used loop.sizes) loop.items) (omega arith) (rw last)
