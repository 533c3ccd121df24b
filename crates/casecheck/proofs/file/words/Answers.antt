-- One number is put behind the other, up to the last or the last place.
-- Assumes nothing.
use Rattle.std.proofs.Common.{◌≡◌, ◌∙◌, ap, take, sym, rules}
use Rattle.casecheck.proofs.FileLaws.{words_more, words_whole}
use Rattle.casecheck.proofs.file.words.Goals as goal

pub loop-i-preserved : goal.loop-i-preserved
loop-i-preserved c =
    words_more c.args.bytes.now c.as_chunks.result.0.now c.as_chunks.ensures.front c.loop-i.room _ c.min-count.result c.loop-i.i
    c.from_le_bytes.result (search rules) (search rules) (search rules) c.loop-i.invariant c.from_le_bytes.ensures

pub returns : goal.returns
returns c =
    let done : c.loop-i.i ≡ c.min-count.result = search rules in
    ap (λ k. take k c.loop-i.room) (sym done)
    ∙ words_whole c.args.bytes.now c.as_chunks.result.0.now c.as_chunks.ensures.front c.loop-i.room c.loop-i.i 16384 (search rules) c.loop-i.invariant
