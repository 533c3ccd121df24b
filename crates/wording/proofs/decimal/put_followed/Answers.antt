-- What std prints of the number are its digits; the byte behind them is put last.
-- Assumes nothing.
use Rattle.std.proofs.Common.{◌+◌, ◌^◌, ◌<◌, ◌≡◌, ◌∙◌, ap, length, arith, rules}
use lib.Seq.{sets}
use Rattle.wording.specs.Wording.{digits}
use Rattle.wording.proofs.DigitLaws.{decimal_is, followed_length, put_behind}
use Rattle.wording.proofs.decimal.put_followed.Goals as goal

pub returns : goal.returns
returns c =
    let a = c.args in
    let put = c.put_bytes-last in
    let small : a.n < 2 ^ 32 = search rules in
    let text : c.as_bytes.result.now ≡ digits a.n = c.as_bytes.ensures.value ∙ c.format.ensures.text ∙ decimal_is a.n small in
    let last = put.ensures.behind ∙ ap (λ l. a.at + length l) text in (
      omega (arith, last, followed_length a.n a.behind),
      put_behind a.out.now put.new.out a.at a.n a.behind put.result (put.ensures.places ∙ ap (sets a.out.now a.at) text) last,
    )
