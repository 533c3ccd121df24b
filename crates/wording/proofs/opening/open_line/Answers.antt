-- Nothing, or the word and the number.
-- Assumes nothing.
use Rattle.std.proofs.Common.{ℕ, List, ◌≡◌, ◌≤◌, ◌∙◌, ap, arith, subst, length}
use Rattle.runtime.specs.Asked.{open_number}
use Rattle.wording.specs.Wording.{line, refused_line}
use Rattle.wording.specs.Promises.{PutAt, open_bytes}
use Rattle.wording.proofs.DigitLaws.{line_most}
use Rattle.wording.proofs.WroteLaws.{no_room, with_room, given_none, wrote_none}
use Rattle.wording.proofs.OpeningLaws.{open_most, refused_length, put_refused}
use Rattle.wording.proofs.PutLaws.{put_by, put_wrote}
use Rattle.wording.proofs.opening.open_line.Goals as goal

pub returns-in_default : goal.returns-in_default
returns-in_default c = wrote_none _ _ (given_none 11 c.args.out.now _ (ap open_bytes c.in_default.is))

pub returns-then-out-lt11 : goal.returns-then-out-lt11
returns-then-out-lt11 c = wrote_none _ _ (no_room 11 c.args.out.now (open_bytes c.args.answer) c.if-out-lt11.true)

pub put_followed-requires : goal.put_followed-requires
put_followed-requires c =
    let number : c.from.result ≡ open_number c.in-Err.refusal = c.from.ensures ∙ c.from-number.ensures in
    omega (arith, line_most c.from.result (omega (arith, open_most c.in-Err.refusal)))

pub returns : goal.returns
returns c =
    let k = c.in-Err.refusal in
    let out : List ℕ = c.args.out.now in
    let number : c.from.result ≡ open_number k = c.from.ensures ∙ c.from-number.ensures in
    let put = c.put_followed in
    let room : length (refused_line (open_number k)) ≤ length out = omega (arith, refused_length (open_number k) (open_most k)) in
    put_wrote _ (refused_line (open_number k)) out put.new.out put.result
    (with_room 11 out (open_bytes c.args.answer) c.if-out-lt11.false ∙ ap open_bytes c.in-Err.is) room
    (
    subst (λ n. PutAt (refused_line n) out 0 put.new.out put.result) number
    (put_refused c.from.result c.put_bytes-at.ensures (put_by (line c.from.result) _ _ _ _ put.ensures.0 put.ensures.1))
    )
