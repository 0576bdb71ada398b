-- `told` meets its contract: the matrix is loaded and solved, and the output written.
-- Assumes nothing.
use mathlib.Core.Path.{sym, ◌∙◌}
use native.Mathlib.Omega.{arith}
use lib.Seq.{length-take-le}
use Rattle.market.specs.Tests.{modulus}
use Rattle.reporting.specs.Text.{upper_of, report_text}
use Rattle.report.proofs.Tells.{tell_load, tell_small, pointers_long, columns_long, values_long, tell_rows, tell_done}
use Rattle.report.proofs.calls.told.Goals as goal

pub load-requires : goal.load-requires
load-requires c = tell_load c.requires

pub overflow_add-stop : goal.overflow_add-stop
overflow_add-stop c = omega (arith, (tell_small c.requires).high)

pub overflow_cast-size : goal.overflow_cast-size
overflow_cast-size c = omega (arith, (tell_small c.requires).high, (tell_small c.requires).wide)

pub overflow_cast-size-2 : goal.overflow_cast-size-2
overflow_cast-size-2 c = omega (arith, (tell_small c.requires).high, (tell_small c.requires).wide)

pub slice_bounds-solve-end : goal.slice_bounds-solve-end
slice_bounds-solve-end c = pointers_long c.requires c.load.ensures

pub slice_bounds-solve-end-2 : goal.slice_bounds-solve-end-2
slice_bounds-solve-end-2 c = sym (length-take-le _ _ (pointers_long c.requires c.load.ensures))

pub slice_bounds-solve-end-3 : goal.slice_bounds-solve-end-3
slice_bounds-solve-end-3 c = columns_long c.requires c.load.ensures

pub slice_bounds-solve-end-4 : goal.slice_bounds-solve-end-4
slice_bounds-solve-end-4 c = sym (length-take-le _ _ (columns_long c.requires c.load.ensures))

pub slice_bounds-solve-end-5 : goal.slice_bounds-solve-end-5
slice_bounds-solve-end-5 c = values_long c.requires c.load.ensures

pub slice_bounds-solve-end-6 : goal.slice_bounds-solve-end-6
slice_bounds-solve-end-6 c = sym (length-take-le _ _ (values_long c.requires c.load.ensures))

pub put_report-requires : goal.put_report-requires
unfolding modulus
put_report-requires c = tell_rows c.requires c.load.ensures c.solve-solved.ensures

pub shape_of-row_ptrs : goal.shape_of-row_ptrs
shape_of-row_ptrs c = c.row_ptrs-1.given

pub shape_of-col_idcs : goal.shape_of-col_idcs
shape_of-col_idcs c = c.col_idcs-1.given

pub shape_of-values : goal.shape_of-values
shape_of-values c = c.values-1.given

pub shape_of-dense : goal.shape_of-dense
shape_of-dense c = c.dense-1.given

pub shape_of-answers : goal.shape_of-answers
shape_of-answers c = c.answers-1.given

pub shape_of-u_cols : goal.shape_of-u_cols
shape_of-u_cols c = c.u_cols-2-1.given ∙ c.u_cols-1.given

pub shape_of-u_vals : goal.shape_of-u_vals
shape_of-u_vals c = c.u_vals-2-1.given ∙ c.u_vals-1.given

pub shape_of-u_ptrs : goal.shape_of-u_ptrs
shape_of-u_ptrs c = c.u_ptrs-1.given

pub shape_of-l_cols : goal.shape_of-l_cols
shape_of-l_cols c = c.l_cols-2-1.given ∙ c.l_cols-1.given

pub shape_of-l_vals : goal.shape_of-l_vals
shape_of-l_vals c = c.l_vals-1.given

pub shape_of-l_ptrs : goal.shape_of-l_ptrs
shape_of-l_ptrs c = c.l_ptrs-1.given

pub shape_of-pivots : goal.shape_of-pivots
shape_of-pivots c = c.pivots-1.given

pub shape_of-out : goal.shape_of-out
shape_of-out c = c.out-1.given

pub returns : goal.returns
unfolding modulus report_text upper_of
returns c = tell_done c.requires c.load.ensures c.solve-solved.ensures c.put_report.ensures
