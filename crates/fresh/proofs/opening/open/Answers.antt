-- As check, then the memory's length, then the table of weights; else the fresh run.
-- Assumes nothing.
use Rattle.std.proofs.Common.{Err, ◌≡◌, length, arith, rules}
use Rattle.semantics.specs.Operations.{open_asked}
use Rattle.runtime.specs.declared.OpenRefusal.TheVariants.{Table}
use Rattle.runtime.specs.Asked.{OpenedAs}
use Rattle.fresh.proofs.OpenLaws.{listed, few_locations, answers_refused, answers_unfit, answers_table, answers_weight, answers_open}
use Rattle.fresh.proofs.opening.open.Goals as goal

pub returns-in_err-tables : goal.returns-in_err-tables
returns-in_err-tables c =
    let a = c.args in
    answers_refused a.list.now a.memory.now a.weights.now c.in_err-tables.field-0.0 c.in_err-tables.ensures c.from_residual.result
    c.from_residual.ensures.1

pub returns-then-memory-locations : goal.returns-then-memory-locations
returns-then-memory-locations c =
    let a = c.args in
    let t = c.in_ok-tables.tables in
    let list = listed a.list.now t c.in_ok-tables.ensures in
    answers_unfit a.list.now a.memory.now a.weights.now t list (λ e. c.if-memory-locations.true (cc))

pub returns-in_err-table : goal.returns-in_err-table
returns-in_err-table c =
    let a = c.args in
    let t = c.in_ok-tables.tables in
    let list = listed a.list.now t c.in_ok-tables.ensures in
    let other : length a.weights.now ≡ 15 → ⊥ = search rules in
    let refused : OpenedAs a.list.now a.weights.now (open_asked a.list.now a.memory.now a.weights.now) (Err Table) =
    answers_table a.list.now a.memory.now a.weights.now t list (cc) other
    in
    let given : c.from_residual-in_err-table.result ≡ Err Table = search rules in
    rw given refused

pub returns-then-not-all_weights : goal.returns-then-not-all_weights
returns-then-not-all_weights c =
    let a = c.args in
    let t = c.in_ok-tables.tables in
    let list = listed a.list.now t c.in_ok-tables.ensures in
    let same : c.in_ok-table.table ≡ a.weights.now = search rules in
    let whole : length a.weights.now ≡ 15 = search rules in
    answers_weight a.list.now a.memory.now a.weights.now t list (cc) whole (rw (← same) (cc))

pub initial-requires : goal.initial-requires
initial-requires c =
    let t = c.in_ok-tables.tables in
    let list = listed c.args.list.now t c.in_ok-tables.ensures in
    (cc, few_locations c.args.list.now t list)

pub returns : goal.returns
returns c =
    let a = c.args in
    let t = c.in_ok-tables.tables in
    let list = listed a.list.now t c.in_ok-tables.ensures in
    let same : c.in_ok-table.table ≡ a.weights.now = search rules in
    let whole : length a.weights.now ≡ 15 = search rules in
    answers_open a.list.now a.memory.now a.weights.now t list (cc) whole (rw (← same) (cc))
    (λ k. omega (arith, c.type_inv.memory k)) c.initial.result (rw same at c.initial.ensures)
