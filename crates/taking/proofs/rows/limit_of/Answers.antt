-- `limit_of` meets its contract: each `return` goes by the test before it.
-- Assumes nothing.
use Rattle.walk.specs.Left.{limit_of}
use Rattle.taking.proofs.rows.limit_of.Goals as goal

pub returns-then-on : goal.returns-then-on
unfolding limit_of
returns-then-on c = rw c.if-on.true

pub returns : goal.returns
unfolding limit_of
returns c = rw c.if-on.false
