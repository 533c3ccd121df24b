-- Digit by digit, until the number is too large.
-- Assumes nothing.
use Rattle.std.proofs.Common.{◌≡◌, length, arith, sym, ◌∙◌}
use Rattle.std.proofs.lemmas.Bool.Decides.{nat_tests}
use Rattle.host_bill.proofs.ArgumentLaws.{pence_begins, digits_done, digits_low, digits_high, digits_large, digits_more}
use Rattle.host_bill.proofs.argument.pence_in.Goals as goal

pub loop-byte-init : goal.loop-byte-init
loop-byte-init c =
    let some : length c.args.text.now ≡ 0 → ⊥ = grind (arith, nat_tests) in
    record { within = omega arith; small = omega arith; rest = pence_begins c.args.text.now some }

pub returns-in_default : goal.returns-in_default
returns-in_default c =
    let l = c.loop-byte in
    sym (digits_low c.args.text.now l.number l.byte-index l.invariant (omega arith) (omega arith))

pub returns-in_default-2 : goal.returns-in_default-2
returns-in_default-2 c =
    let l = c.loop-byte in
    sym (digits_high c.args.text.now l.number l.byte-index l.invariant (omega arith) (omega arith))

pub returns-in_err-checked_mul : goal.returns-in_err-checked_mul
returns-in_err-checked_mul c =
    let l = c.loop-byte in
    c.from_residual.ensures ∙ sym (digits_large c.args.text.now l.number l.byte-index l.invariant (omega arith) (omega arith) (omega arith) (omega (arith, c.in_err-checked_mul.ensures)))

pub returns-in_err-number : goal.returns-in_err-number
returns-in_err-number c =
    let l = c.loop-byte in
    c.from_residual-in_err-number.ensures ∙ sym (digits_large c.args.text.now l.number l.byte-index l.invariant (omega arith) (omega arith) (omega arith) (omega (arith, c.in_err-number.ensures, c.in_ok-checked_mul.ensures)))

pub loop-byte-preserved : goal.loop-byte-preserved
loop-byte-preserved c =
    let l = c.loop-byte in
    digits_more c.args.text.now l.number l.byte-index l.invariant (omega arith) (omega arith) (omega arith) c.in_ok-number.number
    (omega (arith, c.in_ok-number.ensures, c.in_ok-checked_mul.ensures)) (omega (arith, c.in_ok-number.ensures))

pub returns : goal.returns
returns c =
    let l = c.loop-byte in
    sym (digits_done c.args.text.now l.number l.byte-index l.invariant (omega arith))
