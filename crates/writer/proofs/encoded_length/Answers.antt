-- Record by record: what is still to be added.
-- Assumes nothing.
use Rattle.std.proofs.Common.{◌≡◌, [], length, get_or, ap, arith}
use Rattle.tasklist.specs.Encode.{footprint_bytes, body_bytes}
use Rattle.tasklist.specs.TaskList.{footprint_of, body_of}
use Rattle.tasklist.specs.Tables.{list_of}
use Rattle.tasklist.proofs.WriterLaws.{rest_length, rest_none, footprint_length, body_length, encode_length}
use Rattle.writer.proofs.encoded_length.Goals as goal

pub loop-f-preserved : goal.loop-f-preserved
unfolding footprint_of
loop-f-preserved c =
    let f = c.loop-f.f in
    let footprints = (list_of c.args.tables.now).footprints in
    let lines : length c.footprint_lines.result.now ≡ length (get_or footprints f []) = ap length c.footprint_lines.ensures.lines in
    record { whole = omega (arith, footprint_length (get_or footprints f []), rest_length footprint_bytes footprints f [] (omega arith)); most = omega arith }

pub loop-s-preserved : goal.loop-s-preserved
unfolding body_of
loop-s-preserved c =
    let s = c.loop-s.s in
    let bodies = (list_of c.args.tables.now).bodies in
    let instructions : length c.body_instructions.result.now ≡ length (get_or bodies s []) = ap length c.body_instructions.ensures.instructions in
    record { whole = omega (arith, body_length (get_or bodies s []), rest_length body_bytes bodies s [] (omega arith)); most = omega arith }

pub returns : goal.returns
returns c =
    let l = list_of c.args.tables.now in
    omega (
      arith,
      encode_length l,
      ap length (rest_none footprint_bytes l.footprints c.loop-f.f (omega arith)),
      ap length (rest_none body_bytes l.bodies c.loop-s.s (omega arith)),
    )
