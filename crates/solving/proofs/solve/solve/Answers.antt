-- `solve` meets its contract: the determinant, then a fresh start and all rows.
-- Assumes nothing.
use Rattle.solving.proofs.Solves.{solve_told}
use mathlib.Core.Path.{◌∙◌}
use Rattle.solving.proofs.solve.solve.Goals as goal

pub shape_of-dense : goal.shape_of-dense
shape_of-dense c = c.dense-2-1.given ∙ c.dense-1.given

pub shape_of-answers : goal.shape_of-answers
shape_of-answers c = c.answers-1.given

pub shape_of-u_cols : goal.shape_of-u_cols
shape_of-u_cols c = c.u_cols-2-1.given ∙ c.u_cols-1.given

pub shape_of-u_vals : goal.shape_of-u_vals
shape_of-u_vals c = c.u_vals-2-1.given ∙ c.u_vals-1.given

pub shape_of-u_ptrs : goal.shape_of-u_ptrs
shape_of-u_ptrs c = c.u_ptrs-2-1.given ∙ c.u_ptrs-1.given

pub shape_of-l_cols : goal.shape_of-l_cols
shape_of-l_cols c = c.l_cols-2-1.given ∙ c.l_cols-1.given

pub shape_of-l_vals : goal.shape_of-l_vals
shape_of-l_vals c = c.l_vals-2-1.given ∙ c.l_vals-1.given

pub shape_of-l_ptrs : goal.shape_of-l_ptrs
shape_of-l_ptrs c = c.l_ptrs-2-1.given ∙ c.l_ptrs-1.given

pub shape_of-pivots : goal.shape_of-pivots
shape_of-pivots c = c.pivots-2-1.given ∙ c.pivots-1.given

pub returns : goal.returns
returns c = solve_told _ _ _ c.worth-det.ensures c.afresh-reduced.ensures c.counts_after.ensures
