-- `column_test` meets its contract: each `return` goes by the tests before it.
-- Assumes nothing.
use Prim.Native.Nat.{◌-◌}
use native.Mathlib.Omega.{arith}
use lib.ListN.{get_or}
use borrow.Author.Tests.{le-leb, lt-leb, lt-ltb, le-ltb}
use Rattle.sparse.specs.Refusals.{refuse}
use Rattle.sparse.specs.Tests.{column_test}
use Rattle.sparse.proofs.inside.column_test.Goals as goal

pub returns-then-col-ncols : goal.returns-then-col-ncols
unfolding column_test refuse
returns-then-col-ncols c = let a = c.args in
    simp (le-leb a.ncols (get_or a.cols.now a.k 0) (omega arith))

pub returns-then-k-eq0 : goal.returns-then-k-eq0
unfolding column_test refuse
returns-then-k-eq0 c = let a = c.args in
    simp (lt-leb a.ncols (get_or a.cols.now a.k 0) (omega arith), le-ltb 0 a.k (omega arith))

pub returns-then-col-cols : goal.returns-then-col-cols
unfolding column_test refuse
returns-then-col-cols c = let a = c.args in
    simp (lt-leb a.ncols (get_or a.cols.now a.k 0) (omega arith), lt-ltb 0 a.k (omega arith), le-leb (get_or a.cols.now a.k 0) (get_or a.cols.now (a.k - 1) 0) (omega arith))

pub returns : goal.returns
unfolding column_test refuse
returns c = let a = c.args in
    simp (lt-leb a.ncols (get_or a.cols.now a.k 0) (omega arith), lt-ltb 0 a.k (omega arith), lt-leb (get_or a.cols.now a.k 0) (get_or a.cols.now (a.k - 1) 0) (omega arith))
