-- `position_test` meets its contract: each `return` goes by the tests before it.
-- Assumes nothing.
use Prim.Native.Nat.{◌-◌}
use native.Mathlib.Omega.{arith}
use lib.ListN.{get_or}
use borrow.Author.Tests.{lt-ltb, le-ltb}
use Rattle.sparse.specs.Refusals.{refuse}
use Rattle.columns.specs.Positions.{in_order, position_test}
use Rattle.columns.proofs.positions.position_test.Goals as goal

pub returns-then-position-ncols : goal.returns-then-position-ncols
unfolding position_test refuse
returns-then-position-ncols c = let a = c.args in
    simp (lt-ltb a.ncols (get_or a.positions.now a.k 0) (omega arith))

pub returns-then-k-eq0 : goal.returns-then-k-eq0
unfolding position_test refuse
returns-then-k-eq0 c = let a = c.args in
    simp (le-ltb a.ncols (get_or a.positions.now a.k 0) (omega arith), le-ltb 0 a.k (omega arith))

pub returns-then-position-positions : goal.returns-then-position-positions
unfolding position_test in_order refuse
returns-then-position-positions c = let a = c.args in
    simp (le-ltb a.ncols (get_or a.positions.now a.k 0) (omega arith), lt-ltb 0 a.k (omega arith), le-ltb (get_or a.positions.now (a.k - 1) 0) (get_or a.positions.now a.k 0) (omega arith))

pub returns : goal.returns
unfolding position_test in_order refuse
returns c = let a = c.args in
    simp (le-ltb a.ncols (get_or a.positions.now a.k 0) (omega arith), lt-ltb 0 a.k (omega arith), lt-ltb (get_or a.positions.now (a.k - 1) 0) (get_or a.positions.now a.k 0) (omega arith))
