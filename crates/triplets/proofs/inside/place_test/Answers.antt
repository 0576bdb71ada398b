-- `place_test` meets its contract: each branch decides one test of the clause.
-- Assumes nothing.
use native.Mathlib.Omega.{arith}
use borrow.Author.Tests.{le-leb, lt-leb}
use Rattle.sparse.specs.Refusals.{refuse}
use Rattle.triplets.specs.Triplets.{place_test}
use Rattle.triplets.proofs.inside.place_test.Goals as goal

pub returns-then-row-nrows : goal.returns-then-row-nrows
unfolding place_test refuse
returns-then-row-nrows c = let a = c.args in rw (le-leb a.nrows a.row (omega arith))

pub returns-then-col-ncols : goal.returns-then-col-ncols
unfolding place_test refuse
returns-then-col-ncols c = let a = c.args in rw (lt-leb a.nrows a.row (omega arith), le-leb a.ncols a.col (omega arith))

pub returns : goal.returns
unfolding place_test refuse
returns c = let a = c.args in rw (lt-leb a.nrows a.row (omega arith), lt-leb a.ncols a.col (omega arith))
