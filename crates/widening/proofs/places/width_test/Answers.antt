-- `width_test` meets its contract: each `return` gives the lowest of the tests before it.
-- Assumes nothing.
use mathlib.Core.Path.{refl, sym, ◌∙◌}
use native.Mathlib.Omega.{arith}
use borrow.Author.Tests.{lt-ltb, le-ltb}
use Rattle.sparse.specs.Refusals.{refuse}
use Rattle.sparse.proofs.Firsts.{lowest_stop, lowest_next, lowest_last, handed}
use Rattle.columns.proofs.Passed.{few_cols}
use Rattle.widening.specs.AddCols.{width_test}
use Rattle.widening.proofs.places.width_test.Goals as goal

pub returns-in_err-size_test : goal.returns-in_err-size_test
unfolding width_test
returns-in_err-size_test c = rw (handed c.from_residual.ensures.1) (lowest_stop _ c.size_test.ensures c.in_err-size_test.was)

pub wider_test-requires : goal.wider_test-requires
wider_test-requires c = few_cols _ _ _ _ (sym c.size_test.ensures ∙ c.in_ok-size_test.was)

pub returns-in_err-wider_test : goal.returns-in_err-wider_test
unfolding width_test
returns-in_err-wider_test c = rw (handed c.from_residual-in_err-wider_test.ensures.1) (lowest_next _ c.size_test.ensures c.in_ok-size_test.was (lowest_stop _ c.wider_test.ensures c.in_err-wider_test.was))

pub overflow_add-ncols : goal.overflow_add-ncols
overflow_add-ncols c = omega (arith, few_cols _ _ _ _ (sym c.wider_test.ensures ∙ c.in_ok-wider_test.was))

pub returns-then-places-ncols : goal.returns-then-places-ncols
unfolding width_test refuse
returns-then-places-ncols c = lowest_next _ c.size_test.ensures c.in_ok-size_test.was (lowest_next _ c.wider_test.ensures c.in_ok-wider_test.was (lowest_stop _ (rw (lt-ltb _ _ c.if-places-ncols.true)) refl))

pub returns : goal.returns
unfolding width_test refuse
returns c = lowest_next _ c.size_test.ensures c.in_ok-size_test.was (lowest_next _ c.wider_test.ensures c.in_ok-wider_test.was (lowest_last (rw (le-ltb _ _ c.if-places-ncols.false))))
