-- `lines::decimal_at` meets its contract. The loop's invariant: so many digits, which say `value`, are read.
use Rattle.market.specs.Places.{number_read}
use Rattle.market.proofs.Numbers.{digits_none, digits_end, digits_empty, digits_stop, digits_low, digits_high, digits_full, digits_more}
use Rattle.market.proofs.lines.decimal_at.Goals as goal

pub loop-i-init : goal.loop-i-init
loop-i-init c = digits_none _ _ _

pub returns-then-i-at : goal.returns-then-i-at
unfolding number_read
returns-then-i-at c = digits_empty c.loop-i.invariant c.loop-i-test.true c.if-byte-stop.true c.if-i-at.true

pub returns-then-byte-stop : goal.returns-then-byte-stop
unfolding number_read
returns-then-byte-stop c = digits_stop c.loop-i.invariant c.loop-i-test.true c.if-byte-stop.true c.if-i-at.false

pub returns-then-byte-lt48 : goal.returns-then-byte-lt48
unfolding number_read
returns-then-byte-lt48 c = digits_low c.loop-i.invariant c.loop-i-test.true c.if-byte-stop.false c.if-byte-lt48.true

pub returns-then-byte-gt57 : goal.returns-then-byte-gt57
unfolding number_read
returns-then-byte-gt57 c = digits_high c.loop-i.invariant c.loop-i-test.true c.if-byte-stop.false c.if-byte-lt48.false c.if-byte-gt57.true

pub returns-then-i-at-ge-MOST_DIGITS : goal.returns-then-i-at-ge-MOST_DIGITS
unfolding number_read
returns-then-i-at-ge-MOST_DIGITS c = digits_full c.loop-i.invariant c.loop-i-test.true c.if-byte-stop.false c.if-byte-lt48.false c.if-byte-gt57.false c.if-i-at-ge-MOST_DIGITS.true

pub loop-i-preserved : goal.loop-i-preserved
loop-i-preserved c = digits_more c.loop-i.invariant c.loop-i-test.true c.if-byte-stop.false c.if-byte-lt48.false c.if-byte-gt57.false c.if-i-at-ge-MOST_DIGITS.false

pub returns : goal.returns
unfolding number_read
returns c = digits_end c.loop-i.invariant c.loop-i-test.false
