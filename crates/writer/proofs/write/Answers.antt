-- Too short a slice is left alone; else the head, the footprints and the bodies are put one behind the other.
-- Assumes nothing.
use Rattle.std.proofs.Common.{ℕ, ◌≡◌, ◌<◌, ◌≤◌, List, [], ◌∷◌, length, get_or, sym, ap, ◌∙◌, arith, rules}
use Rattle.std.proofs.lemmas.List.Edits.{sets}
use Rattle.tasklist.specs.declared.Instruction.{Instruction}
use Rattle.tasklist.specs.declared.Line.{Line}
use Rattle.tasklist.specs.declared.Tables.{Tables}
use Rattle.tasklist.specs.Answers.{gives}
use Rattle.tasklist.specs.Encode.{line_fields, instruction_fields, footprint_bytes, body_bytes, head_bytes, encode}
use Rattle.tasklist.specs.TaskList.{TaskList, footprint_of, body_of}
use Rattle.tasklist.specs.Tables.{list_of}
use Rattle.tasklist.proofs.PlaceLaws.{footprint_count_is, body_count_is}
use Rattle.tasklist.proofs.WriterLaws.{encode_length, put_whole, places_short, answer_short, places_put, answer_put, put_starts, put_fits, put_more, put_done}
use Rattle.writer.specs.Records.{record_bytes}
use Rattle.writer.proofs.write.Goals as goal

-- the head by what was counted
head_record : (t : Tables) (footprints bodies : ℕ) → footprints ≡ length (list_of t).footprints → bodies ≡ length (list_of t).bodies
    → 0x4A ∷ 0x48 ∷ t.locations ∷ footprints ∷ bodies ∷ [] ≡ head_bytes (list_of t)
unfolding head_bytes list_of
head_record t footprints bodies e f = rw (e, f)

-- the record of a row that was asked for
footprint_record : (l : TaskList) (f : ℕ) (lines : List Line) → lines ≡ footprint_of l f
    → footprint_bytes (get_or l.footprints f []) ≡ record_bytes 0x46 line_fields lines
unfolding footprint_of footprint_bytes
footprint_record l f lines e = ap (record_bytes 0x46 line_fields) (sym e)

body_record : (l : TaskList) (s : ℕ) (instructions : List Instruction) → instructions ≡ body_of l s
    → body_bytes (get_or l.bodies s []) ≡ record_bytes 0x42 instruction_fields instructions
unfolding body_of body_bytes
body_record l s instructions e = ap (record_bytes 0x42 instruction_fields) (sym e)

pub returns-then-out-n : goal.returns-then-out-n
returns-then-out-n c =
    let bytes = encode (list_of c.args.tables.now) in
    let short : length c.args.out.now < length bytes = omega arith in
    (answer_short bytes c.args.out.now short, places_short bytes c.args.out.now short)

pub put-requires : goal.put-requires
put-requires c = omega (arith, encode_length (list_of c.args.tables.now))

pub loop-f-init : goal.loop-f-init
loop-f-init c =
    let l = list_of c.args.tables.now in
    put_starts footprint_bytes l.footprints c.put.new.out 5 (omega (arith, encode_length l))

pub put_row-at-requires-clause-room : goal.put_row-at-requires-clause-room
put_row-at-requires-clause-room c =
    let l = list_of c.args.tables.now in
    let loop = c.loop-f in
    let record_is = footprint_record l loop.f c.footprint_lines.result.now c.footprint_lines.ensures.lines in
    put_fits footprint_bytes l.footprints _ _ loop.out loop.at loop.f [] _ (omega arith) (ap length record_is) loop.invariant

pub loop-f-preserved : goal.loop-f-preserved
loop-f-preserved c =
    let l = list_of c.args.tables.now in
    let loop = c.loop-f in
    let record_is = footprint_record l loop.f c.footprint_lines.result.now c.footprint_lines.ensures.lines in
    rw c.put_row-at.ensures.end
    (put_more footprint_bytes l.footprints _ _ loop.out loop.at loop.f [] _ _ c.put_row-at.new.out (omega arith) (ap length record_is) record_is loop.invariant c.put_row-at.ensures.places)

pub loop-s-init : goal.loop-s-init
loop-s-init c =
    let l = list_of c.args.tables.now in
    let footprints = put_done footprint_bytes l.footprints _ _ c.loop-f.out c.loop-f.at c.loop-f.f (omega arith) c.loop-f.invariant in
    put_starts body_bytes l.bodies c.loop-f.out c.loop-f.at (omega (arith, encode_length l, footprints.0, c.loop-f.auto.out))

pub put_row-at-requires-in-loop-s-clause-room : goal.put_row-at-requires-in-loop-s-clause-room
put_row-at-requires-in-loop-s-clause-room c =
    let l = list_of c.args.tables.now in
    let loop = c.loop-s in
    let record_is = body_record l loop.s c.body_instructions.result.now c.body_instructions.ensures.instructions in
    put_fits body_bytes l.bodies _ _ loop.out loop.at loop.s [] _ (omega arith) (ap length record_is) loop.invariant

pub loop-s-preserved : goal.loop-s-preserved
loop-s-preserved c =
    let l = list_of c.args.tables.now in
    let loop = c.loop-s in
    let record_is = body_record l loop.s c.body_instructions.result.now c.body_instructions.ensures.instructions in
    rw c.put_row-at-in-loop-s.ensures.end
    (put_more body_bytes l.bodies _ _ loop.out loop.at loop.s [] _ _ c.put_row-at-in-loop-s.new.out (omega arith) (ap length record_is) record_is loop.invariant c.put_row-at-in-loop-s.ensures.places)

pub returns : goal.returns
returns c =
    let t = c.args.tables.now in
    let l = list_of t in
    let out = c.args.out.now in
    let fits : length (encode l) ≤ length out = omega arith in
    let footprints = put_done footprint_bytes l.footprints _ _ c.loop-f.out c.loop-f.at c.loop-f.f (omega arith) c.loop-f.invariant in
    let bodies = put_done body_bytes l.bodies _ _ c.loop-s.out c.loop-s.at c.loop-s.s (omega arith) c.loop-s.invariant in
    let head : c.put.new.out ≡ sets out 0 (head_bytes l) =
    c.put.ensures ∙ ap (sets out 0) (head_record t _ _ (c.min.ensures ∙ sym (footprint_count_is t (search rules))) (c.min-2.ensures ∙ sym (body_count_is t (search rules)))) in (
      ap gives c.encoded_length-n.ensures ∙ answer_put (encode l) out fits,
      bodies.1 ∙ (rw (footprints.0, footprints.1, head) (put_whole l out)) ∙ places_put (encode l) out fits,
    )
