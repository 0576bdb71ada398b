-- `answer_of` meets its contract: a head is below the column count.
-- Assumes nothing.
use borrow.Author.Tests.{lt-ltb, le-ltb}
use Rattle.walk.specs.Left.{answer_of}
use Rattle.stepping.proofs.rows.answer_of.Goals as goal

pub returns-then-head-ncols : goal.returns-then-head-ncols
unfolding answer_of
returns-then-head-ncols c = rw (lt-ltb _ _ c.if-head-ncols.true)

pub returns : goal.returns
unfolding answer_of
returns c = rw (le-ltb _ _ c.if-head-ncols.false)
