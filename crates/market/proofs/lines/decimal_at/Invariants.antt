-- `lines::decimal_at` meets its contract. The loop's invariant: so many digits, which say `value`, are read.
use Rattle.market.proofs.Numbers.{Digiting}
use Rattle.market.proofs.lines.decimal_at.Given as goal

abbrev pub invariant-loop-i : goal.invariant-loop-i
invariant-loop-i l = Digiting l.text l.stop l.at l.value l.i
