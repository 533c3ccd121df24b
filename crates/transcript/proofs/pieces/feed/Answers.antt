-- Nothing is used, or the run is lent to the calls of the piece behind the byte that waited.
-- Assumes nothing.
use Rattle.std.proofs.Common.{ℕ, ◌≡◌, ◌*◌, ◌/◌, ◌++◌, List, length, take, drop, sym, ap, subst, ◌∙◌, arith}
use Rattle.std.specs.Prelude.{slice_get}
use lib.ListN.{length-take}
use Rattle.lent.specs.Pieces.{LentOf}
use Rattle.transcript.specs.Promises.{pending_bytes, half_of}
use Rattle.transcript.proofs.PieceLaws.{within_both, joined_length, fed_idle, fed_taken, half_first}
use Rattle.transcript.proofs.pieces.feed.Goals as goal

pub returns-then-exceeds : goal.returns-then-exceeds
returns-then-exceeds c =
    let a = c.args in
    fed_idle a.run a.pending a.piece.now a.out.now (sym c.exceeds.ensures ∙ c.if-exceeds.true)

pub in_one-input-requires : goal.in_one-input-requires
in_one-input-requires c =
    let a = c.args in
    (within_both (length a.piece.now) (length a.out.now) (sym c.exceeds.ensures ∙ c.if-exceeds.false)).0

pub shared_ref_as_front-put_lines : goal.shared_ref_as_front-put_lines
shared_ref_as_front-put_lines c =
    let short = (within_both (length c.args.piece.now) (length c.args.out.now) (sym c.exceeds.ensures ∙ c.if-exceeds.false)).0 in
    omega (arith, ap length c.in_one-input.ensures, joined_length c.args.pending c.args.piece.now)

pub put_lines-requires : goal.put_lines-requires
put_lines-requires c =
    let a = c.args in
    let room = within_both (length a.piece.now) (length a.out.now) (sym c.exceeds.ensures ∙ c.if-exceeds.false) in
    omega (
      arith,
      room.0,
      room.1,
      ap length c.in_one-input.ensures,
      joined_length a.pending a.piece.now,
      length-take {A = ℕ} (length c.split_at.result.0.now / 2) c.lend-given.result.answers,
    )

pub returns : goal.returns
returns c =
    let a = c.args in
    let bytes : List ℕ = pending_bytes a.pending ++ a.piece.now in
    let input = c.in_one-input.result.now in
    let whole : input ≡ bytes = c.in_one-input.ensures in
    let fit = sym c.exceeds.ensures ∙ c.if-exceeds.false in
    let given = c.lend-given in
    let put = c.put_lines in
    let calls : c.split_at.result.0.now ≡ take (length bytes / 2 * 2) bytes =
    c.split_at.ensures.front ∙ ap (λ l. take (length l / 2 * 2) l) whole in
    let count : length c.split_at.result.0.now / 2 ≡ length bytes / 2 = omega (arith, ap length whole) in
    let left : pending_bytes c.copied.result ≡ half_of bytes =
    ap pending_bytes (c.copied.ensures ∙ c.first.ensures.value ∙ ap (λ l. slice_get l 0) (c.split_at.ensures.back ∙ ap (λ l. drop (length l / 2 * 2) l) whole))
    ∙ half_first bytes in
    fed_taken a.run a.pending a.piece.now a.out.now put.new.out _ given.result c.copied.result put.result fit
    (subst (λ l. LentOf l a.run given.result) calls given.ensures) left (ap (λ k. take k given.result.answers) count)
    put.ensures.put
    (omega (arith, put.ensures.most, length-take {A = ℕ} (length c.split_at.result.0.now / 2) given.result.answers))
