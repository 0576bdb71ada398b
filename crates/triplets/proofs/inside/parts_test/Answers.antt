-- `parts_test` meets its contract: each branch decides one test of the clause.
-- Assumes nothing.
use borrow.Author.Tests.{eq-eqb, ne_eqb}
use Rattle.sparse.specs.Refusals.{refuse}
use Rattle.triplets.specs.Triplets.{parts_test}
use Rattle.triplets.proofs.inside.parts_test.Goals as goal

pub returns-then-rows-vals : goal.returns-then-rows-vals
unfolding parts_test refuse
returns-then-rows-vals c = rw (ne_eqb _ _ c.if-rows-vals.true)

pub returns-then-cols-vals : goal.returns-then-cols-vals
unfolding parts_test refuse
returns-then-cols-vals c = rw (eq-eqb _ _ c.if-rows-vals.false, ne_eqb _ _ c.if-cols-vals.true)

pub returns : goal.returns
unfolding parts_test refuse
returns c = rw (eq-eqb _ _ c.if-rows-vals.false, eq-eqb _ _ c.if-cols-vals.false)
