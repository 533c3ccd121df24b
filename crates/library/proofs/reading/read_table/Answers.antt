-- The numbers are those of the bytes; another length gives none.
-- Assumes nothing.
use Rattle.std.proofs.Common.{None, ◌≡◌, ◌∙◌, ap, [], length, arith, rules}
use Rattle.std.specs.Int.{w16, from_le_bytes}
use Rattle.library.specs.Table.{ReadTable}
use Rattle.library.proofs.MapLaws.{mapped}
use Rattle.library.proofs.TableLaws.{read_none, read_all}
use Rattle.library.proofs.reading.read_table.Goals as goal

pub returns-in_default : goal.returns-in_default
returns-in_default c = read_none c.args.bytes.now (λ z. omega (arith, c.in_default.len_at_least))

pub returns-in_err-pairs : goal.returns-in_err-pairs
returns-in_err-pairs c =
    let other : length c.as_chunks.result.0.now ≡ 15 → ⊥ = search rules in
    let read : ReadTable c.args.bytes.now None = read_none c.args.bytes.now (λ z. other (omega arith)) in
    rw c.from_residual.ensures read

pub returns : goal.returns
returns c =
    let pairs = c.in_ok-pairs.pairs in
    let whole : length pairs ≡ 15 = search rules in
    let same : pairs ≡ c.as_chunks.result.0.now = search rules in
    read_all c.args.bytes.now c.map.result pairs (same ∙ c.as_chunks.ensures.front) (ap length same ∙ c.as_chunks.ensures.front_len)
    (omega (arith, c.in_default-empty.len_below)) whole
    (mapped _ _ (from_le_bytes w16) [] pairs c.map.result 15 c.map.ensures.items whole (λ p q x y h. search rules))
