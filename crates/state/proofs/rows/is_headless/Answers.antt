-- `is_headless` meets its contract: each `return` goes by the parts of the clause before it.
-- Assumes nothing.
use native.Mathlib.Omega.{arith}
use lib.ListN.{get_or}
use borrow.Author.Tests.{le-leb, lt-leb, eq-eqb, ne_eqb}
use Rattle.sparse.proofs.Cuts.{row_in}
use Rattle.state.specs.State.{head_of, headless}
use Rattle.state.proofs.rows.is_headless.Goals as goal

pub returns-then-ptrs-row : goal.returns-then-ptrs-row
unfolding headless
returns-then-ptrs-row c = rw (le-leb _ _ c.if-ptrs-row.true)

pub offset_bounds-vals-start : goal.offset_bounds-vals-start
offset_bounds-vals-start c = let s = c.requires in omega (arith, row_in s.all.cut s.within)

pub bounds-vals-start : goal.bounds-vals-start
bounds-vals-start c = let s = c.requires in omega (arith, row_in s.all.cut s.within)

pub returns-then-vals-start-ne1 : goal.returns-then-vals-start-ne1
unfolding headless
returns-then-vals-start-ne1 c = rw (lt-leb _ _ c.if-ptrs-row.false, ne_eqb _ _ c.if-vals-start-ne1.true)

pub offset_bounds-cols-start : goal.offset_bounds-cols-start
offset_bounds-cols-start c = let s = c.requires in omega (arith, row_in s.all.cut s.within)

pub bounds-cols-start : goal.bounds-cols-start
bounds-cols-start c = let s = c.requires in omega (arith, row_in s.all.cut s.within, s.all.same)

pub overflow_cast-result : goal.overflow_cast-result
overflow_cast-result c = omega (arith, c.type_inv.cols (get_or c.args.ptrs.now c.args.row 0))

pub offset_bounds-pivots-head : goal.offset_bounds-pivots-head
offset_bounds-pivots-head c = omega (arith, c.type_inv.cols (get_or c.args.ptrs.now c.args.row 0))

pub bounds-pivots-head : goal.bounds-pivots-head
bounds-pivots-head c = let s = c.requires in
    s.all.below _ (omega (arith, row_in s.all.cut s.within, s.all.same))

pub returns : goal.returns
unfolding headless head_of
returns c = rw (lt-leb _ _ c.if-ptrs-row.false, eq-eqb _ _ c.if-vals-start-ne1.false)
