-- `take_rev_test` meets its contract: the tests stand in the table's order, so the first that refuses decides.
-- Assumes nothing.
use borrow.Author.Tests.{eq-eqb, ne_eqb}
use Rattle.sparse.specs.Refusals.{refuse}
use Rattle.sparse.proofs.Firsts.{lowest_stop, lowest_next, lowest_last, handed}
use Rattle.moves.specs.Moves.{odd, take_rev_test}
use Rattle.moves.proofs.halves.take_rev_test.Goals as goal

pub returns-in_err-well_formed : goal.returns-in_err-well_formed
unfolding take_rev_test
returns-in_err-well_formed c = rw (handed c.from_residual.ensures.1) (lowest_stop _ c.well_formed-2.ensures c.in_err-well_formed.was)

pub returns-then-ncols-ne0 : goal.returns-then-ncols-ne0
unfolding take_rev_test odd refuse
returns-then-ncols-ne0 c = lowest_next _ c.well_formed-2.ensures c.in_ok-well_formed.was (lowest_last (rw (ne_eqb _ _ c.if-ncols-ne0.true)))

pub returns : goal.returns
unfolding take_rev_test odd refuse
returns c = lowest_next _ c.well_formed-2.ensures c.in_ok-well_formed.was (lowest_last (rw (eq-eqb _ _ c.if-ncols-ne0.false)))
