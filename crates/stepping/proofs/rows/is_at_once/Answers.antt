-- `is_at_once` meets its contract: each `return` goes by a part of the clause.
-- Assumes nothing.
use borrow.Author.Tests.{ne_eqb}
use Rattle.stepping.proofs.rows.is_at_once.Goals as goal

pub returns-then-len-eq0 : goal.returns-then-len-eq0
returns-then-len-eq0 c = rw c.if-len-eq0.true

pub returns : goal.returns
returns c = rw (ne_eqb _ _ c.if-len-eq0.false)
