-- `new_test` meets its contract: each `return` gives the lowest of the tests before it.
-- Assumes nothing.
use mathlib.Core.Path.{refl}
use borrow.Author.Tests.{lt-ltb, le-ltb}
use Rattle.sparse.specs.Refusals.{refuse}
use Rattle.sparse.proofs.Firsts.{lowest_stop, lowest_next, lowest_last, handed}
use Rattle.state.specs.Fresh.{new_test}
use Rattle.state.proofs.start.new_test.Goals as goal

pub returns-in_err-modulus_test : goal.returns-in_err-modulus_test
unfolding new_test
returns-in_err-modulus_test c = rw (handed c.from_residual.ensures.1) (lowest_stop _ c.modulus_test.ensures c.in_err-modulus_test.was)

pub returns-in_err-size_test : goal.returns-in_err-size_test
unfolding new_test
returns-in_err-size_test c = rw (handed c.from_residual-in_err-size_test.ensures.1) (lowest_next _ c.modulus_test.ensures c.in_ok-modulus_test.was (lowest_stop _ c.size_test.ensures c.in_err-size_test.was))

pub returns-then-pivots-ncols : goal.returns-then-pivots-ncols
unfolding new_test refuse
returns-then-pivots-ncols c = lowest_next _ c.modulus_test.ensures c.in_ok-modulus_test.was (lowest_next _ c.size_test.ensures c.in_ok-size_test.was (lowest_stop _ (rw (lt-ltb _ _ c.if-pivots-ncols.true)) refl))

pub returns : goal.returns
unfolding new_test refuse
returns c = lowest_next _ c.modulus_test.ensures c.in_ok-modulus_test.was (lowest_next _ c.size_test.ensures c.in_ok-size_test.was (lowest_next _ (rw (le-ltb _ _ c.if-pivots-ncols.false)) refl (lowest_last c.start_test.ensures)))
