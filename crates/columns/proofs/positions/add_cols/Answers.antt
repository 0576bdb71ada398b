-- `add_cols` meets its contract: a refusal leaves the columns as they came, and what passes is moved.
-- Assumes nothing.
use Rattle.sparse.proofs.Firsts.{handed}
use Rattle.std.specs.Prelude.{Ok}
use mathlib.Core.Path.{◌≡◌, sym, ap, ◌∙◌}
use native.Mathlib.Omega.{arith}
use Rattle.sparse.specs.Lent.{outcome, unless}
use Rattle.sparse.specs.Matrix.{matrix}
use Rattle.columns.specs.Positions.{add_cols_test, add_cols}
use Rattle.columns.proofs.Passed.{Insertable, insertable, wide, movable}
use Rattle.columns.proofs.positions.add_cols.Goals as goal
use Rattle.columns.proofs.positions.add_cols.Goals.{In_ok-add_cols_test}

-- past the tests: they found nothing
tested : (c : In_ok-add_cols_test) → let a = c.args in add_cols_test a.p (matrix a.nrows a.ncols a.row_ptrs.now a.col_idcs.now a.values.now) a.positions.now ≡ Ok tt
tested c = sym c.add_cols_test.ensures ∙ c.in_ok-add_cols_test.was

passed : (c : In_ok-add_cols_test) → let a = c.args in Insertable a.p (matrix a.nrows a.ncols a.row_ptrs.now a.col_idcs.now a.values.now) a.positions.now
passed c = insertable _ _ _ (tested c)

pub returns-in_err-add_cols_test : goal.returns-in_err-add_cols_test
unfolding add_cols unless
returns-in_err-add_cols_test c = rw (handed c.from_residual.ensures.1) (rw (← c.add_cols_test.ensures, c.in_err-add_cols_test.was))

pub move_columns-requires : goal.move_columns-requires
move_columns-requires c = movable (passed (goal.at.move_columns-requires c).In_ok-add_cols_test)

pub overflow_cast-result : goal.overflow_cast-result
overflow_cast-result c = omega (arith, wide (passed (goal.at.overflow_cast-result c).In_ok-add_cols_test))

pub overflow_add-result : goal.overflow_add-result
overflow_add-result c = omega (arith, wide (passed (goal.at.overflow_add-result c).In_ok-add_cols_test))

pub returns : goal.returns
unfolding add_cols unless
returns c = rw (tested (goal.at.returns c).In_ok-add_cols_test) (ap (outcome (Ok _)) c.move_columns.ensures)
