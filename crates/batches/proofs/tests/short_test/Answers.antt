-- `short_test` meets its contract: each `return` goes by the parts of the clause before it.
-- Assumes nothing.
use borrow.Author.Tests.{lt-ltb, le-ltb}
use Rattle.sparse.specs.Refusals.{refuse}
use Rattle.batches.specs.Tests.{short_test}
use Rattle.batches.proofs.tests.short_test.Goals as goal

pub returns-then-dense-ncols : goal.returns-then-dense-ncols
unfolding short_test refuse
returns-then-dense-ncols c = rw (lt-ltb _ _ c.if-dense-ncols.true)

pub returns-then-pivots-ncols : goal.returns-then-pivots-ncols
unfolding short_test refuse
returns-then-pivots-ncols c = rw (le-ltb _ _ c.if-dense-ncols.false, lt-ltb _ _ c.if-pivots-ncols.true)

pub returns-then-answers-nrows : goal.returns-then-answers-nrows
unfolding short_test refuse
returns-then-answers-nrows c = rw (le-ltb _ _ c.if-dense-ncols.false, le-ltb _ _ c.if-pivots-ncols.false, lt-ltb _ _ c.if-answers-nrows.true)

pub returns : goal.returns
unfolding short_test refuse
returns c = rw (le-ltb _ _ c.if-dense-ncols.false, le-ltb _ _ c.if-pivots-ncols.false, le-ltb _ _ c.if-answers-nrows.false)
