-- `multiply` meets its contract. The loop's invariant: the entries so far are multiplied.
use lib.ListN.{length}
use Rattle.sparse.specs.Matrix.{value_at}
use Rattle.judging.specs.Asks.{upper}
use Rattle.judging.proofs.Multiples.{Multiplied}
use Rattle.judging.proofs.products.multiply.Given as goal

abbrev pub invariant-loop-row : goal.invariant-loop-row
invariant-loop-row l = Multiplied l.p l.ncols l.l_cols l.l_vals (value_at (upper l.ncols l.u_cols l.u_vals l.u_ptrs)) (length l.yielded) l.dense
