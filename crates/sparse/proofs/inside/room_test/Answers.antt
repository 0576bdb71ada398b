-- `room_test` meets its contract: each `return` goes by the tests before it.
-- Assumes nothing.
use Prim.Native.Nat.{◌+◌}
use native.Mathlib.Omega.{arith}
use borrow.Author.Tests.{lt-ltb, le-ltb}
use lib.ListN.{length}
use Rattle.sparse.specs.Lent.{room_test}
use Rattle.sparse.specs.Refusals.{refuse}
use Rattle.sparse.proofs.inside.room_test.Goals as goal

pub returns-then-row_ptrs-nrows : goal.returns-then-row_ptrs-nrows
unfolding room_test refuse
returns-then-row_ptrs-nrows c = let a = c.args in
    simp (lt-ltb (length a.row_ptrs.now) (a.nrows + 1) (omega arith))

pub returns-then-col_idcs-entries : goal.returns-then-col_idcs-entries
unfolding room_test refuse
returns-then-col_idcs-entries c = let a = c.args in
    simp (le-ltb (length a.row_ptrs.now) (a.nrows + 1) (omega arith), lt-ltb _ _ c.if-col_idcs-entries.true)

pub returns-then-values-entries : goal.returns-then-values-entries
unfolding room_test refuse
returns-then-values-entries c = let a = c.args in
    simp (le-ltb (length a.row_ptrs.now) (a.nrows + 1) (omega arith), le-ltb _ _ c.if-col_idcs-entries.false, lt-ltb _ _ c.if-values-entries.true)

pub returns : goal.returns
unfolding room_test refuse
returns c = let a = c.args in
    simp (le-ltb (length a.row_ptrs.now) (a.nrows + 1) (omega arith), le-ltb _ _ c.if-col_idcs-entries.false, le-ltb _ _ c.if-values-entries.false)
