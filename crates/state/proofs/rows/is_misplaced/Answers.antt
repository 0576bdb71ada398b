-- `is_misplaced` meets its contract: each `return` goes by the parts of the clause before it.
-- Assumes nothing.
use native.Mathlib.Omega.{arith}
use borrow.Author.Tests.{le-leb, lt-leb, eq-eqb, ne_eqb}
use Rattle.sparse.specs.Pivots.{mark}
use Rattle.state.specs.State.{head_of, misplaced}
use Rattle.state.proofs.rows.is_misplaced.Goals as goal

pub returns-then-row : goal.returns-then-row
unfolding misplaced mark
returns-then-row c = rw (eq-eqb _ _ c.if-row.true)

pub returns-then-row-nrows : goal.returns-then-row-nrows
unfolding misplaced mark
returns-then-row-nrows c = rw (ne_eqb _ _ c.if-row.false, le-leb _ _ c.if-row-nrows.true)

pub offset_bounds-cols-start : goal.offset_bounds-cols-start
offset_bounds-cols-start c = let s = c.requires in omega (arith, s.all.head _ c.if-row-nrows.false)

pub bounds-cols-start : goal.bounds-cols-start
bounds-cols-start c = let s = c.requires in s.all.head _ c.if-row-nrows.false

pub returns : goal.returns
unfolding misplaced mark head_of
returns c = rw (ne_eqb _ _ c.if-row.false, lt-leb _ _ c.if-row-nrows.false)
