-- `add_cols` meets its contract: a refusal leaves the memory as it came, and what passes is moved and spread.
-- Assumes nothing.
use mathlib.Core.Path.{sym, ◌∙◌}
use native.Mathlib.Omega.{arith}
use lib.Seq.{length-take-le}
use Rattle.sparse.proofs.Firsts.{handed}
use Rattle.state.specs.Memory.{memory}
use Rattle.widening.proofs.Makes.{add_refused, add_made}
use Rattle.widening.proofs.Passed.{Widenable, widenable, held, columns_movable}
use Rattle.widening.proofs.places.add_cols.Goals as goal
use Rattle.widening.proofs.places.add_cols.Goals.{In_ok-add_cols_test}

-- past the tests: they found nothing
passed : (c : In_ok-add_cols_test) → let a = c.args in Widenable a.counts a.positions.now (memory a.u_cols.now a.u_vals.now a.u_ptrs.now a.l_cols.now a.l_vals.now a.l_ptrs.now a.pivots.now)
passed c = widenable _ _ _ (sym c.add_cols_test.ensures ∙ c.in_ok-add_cols_test.was)

pub returns-in_err-add_cols_test : goal.returns-in_err-add_cols_test
returns-in_err-add_cols_test c = rw (handed c.from_residual.ensures.1) (add_refused _ _ _ c.add_cols_test.ensures c.in_err-add_cols_test.was)

pub slice_bounds-move_columns-end : goal.slice_bounds-move_columns-end
slice_bounds-move_columns-end c = (held (passed (goal.at.slice_bounds-move_columns-end c).In_ok-add_cols_test)).columns

pub slice_bounds-move_columns-end-2 : goal.slice_bounds-move_columns-end-2
slice_bounds-move_columns-end-2 c = sym (length-take-le _ _ (held (passed (goal.at.slice_bounds-move_columns-end-2 c).In_ok-add_cols_test)).columns)

pub move_columns-requires : goal.move_columns-requires
move_columns-requires c = columns_movable (passed (goal.at.move_columns-requires c).In_ok-add_cols_test)

pub spread_pivots-requires : goal.spread_pivots-requires
spread_pivots-requires c = (passed (goal.at.spread_pivots-requires c).In_ok-add_cols_test).spreads

pub overflow_cast-positions : goal.overflow_cast-positions
overflow_cast-positions c = omega (arith, (passed (goal.at.overflow_cast-positions c).In_ok-add_cols_test).spreads.wide)

pub wider_counts-requires : goal.wider_counts-requires
wider_counts-requires c = (passed (goal.at.wider_counts-requires c).In_ok-add_cols_test).spreads.wide

pub returns : goal.returns
returns c = add_made _ _ _ c.add_cols_test.ensures c.in_ok-add_cols_test.was c.move_columns.ensures c.spread_pivots.ensures c.wider_counts.ensures
