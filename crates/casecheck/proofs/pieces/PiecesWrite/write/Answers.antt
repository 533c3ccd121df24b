-- A full piece is put out first; else the bytes come behind those that were gathered.
-- Assumes nothing.
use Rattle.std.proofs.Common.{◌≡◌, ◌∙◌, ap, ◌++◌, take}
use Rattle.casecheck.proofs.PieceLaws.{gathered_more, put_first}
use Rattle.casecheck.proofs.pieces.PiecesWrite.write.Goals as goal
use Rattle.casecheck.proofs.pieces.PiecesWrite.write.Goals.{then-self-eq-PIECE, else-self-eq-PIECE}

pub returns-clause-bytes : goal.returns-clause-bytes
returns-clause-bytes g c = elim c.if-self-eq-PIECE.branch [
  | then-self-eq-PIECE w ↦
      let to_is : c.gather.new.self.to ≡ w.put_out.new.self.to = c.gather.ensures.to ∙ ap (λ s. s.to) w.self-is in
      rw to_is
      (put_first _ _ _ _ _ w.put_out.ensures.out
      (c.gather.ensures.bytes ∙ ap (λ s. take s.filled s.bytes ++ take c.gather.result c.args.buf.now) w.self-is
      ∙ ap (λ k. take k w.put_out.new.self.bytes ++ take c.gather.result c.args.buf.now) w.put_out.ensures.none))
  | else-self-eq-PIECE w ↦
      let to_is : c.gather.new.self.to ≡ c.args.self.now.to = c.gather.ensures.to ∙ ap (λ s. s.to) w.self-is in
      rw to_is
      (gathered_more _ _ _ _
      (c.gather.ensures.bytes ∙ ap (λ s. take s.filled s.bytes ++ take c.gather.result c.args.buf.now) w.self-is))
]
