-- `with_sign` meets its contract.
-- Assumes nothing.
use borrow.Author.Tests.{eq-eqb, ne_eqb}
use Rattle.signs.specs.Value.{signed}
use Rattle.signs.proofs.values.with_sign.Goals as goal

pub returns-then-turns-eq1 : goal.returns-then-turns-eq1
unfolding signed
returns-then-turns-eq1 c = rw (eq-eqb _ _ c.if-turns-eq1.true) c.neg.ensures

pub returns : goal.returns
unfolding signed
returns c = rw (ne_eqb _ _ c.if-turns-eq1.false)
