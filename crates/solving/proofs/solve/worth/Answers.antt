-- `worth` meets its contract: the determinant where the matrix is square.
-- Assumes nothing.
use Rattle.solving.proofs.Solves.{worth_unasked, worth_asked}
use Rattle.solving.proofs.solve.worth.Goals as goal

pub returns-then-nrows-ncols : goal.returns-then-nrows-ncols
returns-then-nrows-ncols c = worth_unasked _ _ _ c.if-nrows-ncols.true

pub shape_of-dense : goal.shape_of-dense
shape_of-dense c = c.dense-1.given

pub shape_of-u_cols : goal.shape_of-u_cols
shape_of-u_cols c = c.u_cols-1.given

pub shape_of-u_vals : goal.shape_of-u_vals
shape_of-u_vals c = c.u_vals-1.given

pub shape_of-u_ptrs : goal.shape_of-u_ptrs
shape_of-u_ptrs c = c.u_ptrs-1.given

pub shape_of-l_cols : goal.shape_of-l_cols
shape_of-l_cols c = c.l_cols-1.given

pub shape_of-l_vals : goal.shape_of-l_vals
shape_of-l_vals c = c.l_vals-1.given

pub shape_of-l_ptrs : goal.shape_of-l_ptrs
shape_of-l_ptrs c = c.l_ptrs-1.given

pub shape_of-pivots : goal.shape_of-pivots
shape_of-pivots c = c.pivots-1.given

pub returns : goal.returns
returns c = worth_asked _ _ _ c.if-nrows-ncols.false c.det-determined.ensures c.worth_of.ensures
