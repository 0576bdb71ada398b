-- `inside::put_decimal` meets its contract: a tenth of the number, and then its last digit. The measure is the number.
-- Assumes nothing.
use native.Mathlib.Omega.{arith}
use mathlib.Core.Path.{sym}
use Rattle.text.specs.Decimals.{glyph}
use Rattle.text.proofs.Digits.{decimal_low, decimal_high, decimal_tenth}
use Rattle.text.proofs.Puts.{wrote_then, wrote_as}
use Rattle.text.proofs.inside.+put_decimal.Goals as goal

pub returns-then-n-lt10 : goal.returns-then-n-lt10
unfolding glyph
returns-then-n-lt10 t c = wrote_as (sym (decimal_low _ c.if-n-lt10.true)) c.put_byte.ensures

pub put_byte-requires-2 : goal.put_byte-requires-2
put_byte-requires-2 t c = omega (arith, c.put_decimal-next.ensures.next, decimal_tenth c.args.n (omega arith) (omega arith))

pub returns : goal.returns
unfolding glyph
returns t c = let tenth = c.put_decimal-next.ensures in
    wrote_as (sym (decimal_high _ c.if-n-lt10.false (omega arith)))
    (wrote_then tenth c.put_byte-2.ensures)
