-- `subtract_row` meets its contract: what lies beyond the head is added so many times.
-- Assumes nothing.
use native.Mathlib.Omega.{arith}
use Rattle.sparse.specs.Matrix.{part}
use Rattle.walk.specs.Dense.{beyond, minus_row}
use Rattle.walk.proofs.PivotRows.{clears_adds}
use Rattle.walk.proofs.climb.subtract_row.Goals as goal

pub overflow_sub-f : goal.overflow_sub-f
overflow_sub-f c = omega (arith, c.requires.small c.args.col c.requires.within)

pub add_multiple-requires : goal.add_multiple-requires
unfolding beyond part
add_multiple-requires c = clears_adds c.requires

pub returns : goal.returns
unfolding minus_row beyond part
returns c = c.add_multiple.ensures
