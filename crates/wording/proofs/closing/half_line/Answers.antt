-- Nothing, or the line of half a call.
-- Assumes nothing.
use Rattle.std.proofs.Common.{List, ℕ, ap, ◌∙◌, length, arith, zero-add}
use Rattle.wording.specs.Wording.{line}
use Rattle.wording.specs.Promises.{given, half_bytes}
use Rattle.wording.proofs.DigitLaws.{line_most}
use Rattle.wording.proofs.WroteLaws.{no_room, with_room, given_none, wrote_none, wrote_all}
use Rattle.wording.proofs.closing.half_line.Goals as goal

pub returns-in_default : goal.returns-in_default
unfolding half_bytes
returns-in_default c = wrote_none _ _ (given_none 3 c.args.out.now _ (ap half_bytes c.in_default.is))

pub returns-then-out-lt3 : goal.returns-then-out-lt3
returns-then-out-lt3 c = wrote_none _ _ (no_room 3 c.args.out.now _ c.if-out-lt3.true)

pub put_followed-requires : goal.put_followed-requires
put_followed-requires c = omega (arith, line_most 18 (omega arith))

pub returns : goal.returns
unfolding half_bytes
returns c =
    let out : List ℕ = c.args.out.now in
    let put = c.put_followed in
    wrote_all (given 3 out (half_bytes c.args.pending)) (line 18) out put.new.out put.result
    (with_room 3 out (half_bytes c.args.pending) c.if-out-lt3.false ∙ ap half_bytes c.in-Some.is)
    (omega (arith, line_most 18 (omega arith))) (put.ensures.0 ∙ zero-add (length (line 18))) put.ensures.1
