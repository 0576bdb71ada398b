-- `shape_test` meets its contract: each `return` goes by the tests before it.
-- Assumes nothing.
use borrow.Author.Tests.{eq-eqb, ne_eqb}
use Rattle.sparse.specs.Refusals.{refuse}
use Rattle.sparse.specs.Tests.{shape_test}
use Rattle.sparse.proofs.inside.shape_test.Goals as goal

pub returns-then-col_idcs-values : goal.returns-then-col_idcs-values
unfolding shape_test refuse
returns-then-col_idcs-values c = simp (ne_eqb _ _ c.if-col_idcs-values.true)

pub returns-then-row_ptrs-pointers : goal.returns-then-row_ptrs-pointers
unfolding shape_test refuse
returns-then-row_ptrs-pointers c = simp (eq-eqb _ _ c.if-col_idcs-values.false, ne_eqb _ _ c.if-row_ptrs-pointers.true)

pub returns-then-row_ptrs-ne0 : goal.returns-then-row_ptrs-ne0
unfolding shape_test refuse
returns-then-row_ptrs-ne0 c = simp (eq-eqb _ _ c.if-col_idcs-values.false, eq-eqb _ _ c.if-row_ptrs-pointers.false, ne_eqb _ _ c.if-row_ptrs-ne0.true)

pub returns-then-row_ptrs-nrows : goal.returns-then-row_ptrs-nrows
unfolding shape_test refuse
returns-then-row_ptrs-nrows c = simp (eq-eqb _ _ c.if-col_idcs-values.false, eq-eqb _ _ c.if-row_ptrs-pointers.false, eq-eqb _ _ c.if-row_ptrs-ne0.false, ne_eqb _ _ c.if-row_ptrs-nrows.true)

pub returns : goal.returns
unfolding shape_test refuse
returns c = simp (eq-eqb _ _ c.if-col_idcs-values.false, eq-eqb _ _ c.if-row_ptrs-pointers.false, eq-eqb _ _ c.if-row_ptrs-ne0.false, eq-eqb _ _ c.if-row_ptrs-nrows.false)
