-- `answers_test` meets its contract.
-- Assumes nothing.
use borrow.Author.Tests.{eq-eqb, ne_eqb}
use Rattle.sparse.specs.Refusals.{refuse}
use Rattle.checking.proofs.tests.answers_test.Goals as goal

pub returns-then-answers-nrows : goal.returns-then-answers-nrows
unfolding refuse
returns-then-answers-nrows c = rw (ne_eqb _ _ c.if-answers-nrows.true)

pub returns : goal.returns
unfolding refuse
returns c = rw (eq-eqb _ _ c.if-answers-nrows.false)
