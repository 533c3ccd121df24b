-- The piece stands behind the byte, where one waits.
-- Assumes nothing.
use Rattle.std.proofs.Common.{◌≡◌, ◌≤◌, ◌∙◌, sym, ap, take, arith}
use Rattle.transcript.specs.Promises.{pending_bytes}
use Rattle.transcript.proofs.PieceLaws.{one_waits, behind_waiting}
use Rattle.transcript.proofs.pieces.in_one.Goals as goal
use Rattle.transcript.proofs.pieces.in_one.Goals.{in-Some, in_default}

pub returns : goal.returns
unfolding pending_bytes
returns c =
    let p = c.args.pending in
    let m = c.match-pending in
    let waits : take m.from m.buffer ≡ pending_bytes p =
    elim m.branch [
      | in-Some w ↦
          ap (λ k. take k m.buffer) w.from-is ∙ ap (take 1) w.buffer-is ∙ one_waits p c.args.buffer.now w.in-Some.byte w.in-Some.is (omega arith)
      | in_default w ↦ ap (λ k. take k m.buffer) w.from-is ∙ sym (ap pending_bytes w.in_default.is)
    ] in
    let short : m.from ≤ 1 = elim m.branch [ in-Some w ↦ omega arith | in_default w ↦ omega arith ] in
    behind_waiting p c.args.piece.now m.buffer _ m.from _ (omega arith) waits c.copy_from_slice.ensures.after
