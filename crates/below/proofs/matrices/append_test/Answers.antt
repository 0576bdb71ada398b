-- `append_test` meets its contract: sizes, then forms, then 11.
-- Assumes nothing.
use mathlib.Core.Path.{sym, ◌∙◌}
use native.Mathlib.Omega.{arith}
use borrow.Author.Tests.{eq-eqb, ne_eqb}
use Rattle.sparse.specs.Refusals.{refuse}
use Rattle.sparse.proofs.Firsts.{lowest_last, handed}
use Rattle.writing.proofs.Lowests.{first_stop, first_next}
use Rattle.joining.proofs.Formed.{joined_small}
use Rattle.below.proofs.Passed.{append-tests}
use Rattle.below.proofs.matrices.append_test.Goals as goal

pub returns-in_err-sizes_test : goal.returns-in_err-sizes_test
returns-in_err-sizes_test c = rw (handed c.from_residual.ensures.1) (first_stop _ _ c.sizes_test.ensures c.in_err-sizes_test.was ∙ sym (append-tests _ _ _))

pub both_test-requires : goal.both_test-requires
both_test-requires c = (joined_small _ _ _ _ _ _ _ _ _ (sym c.sizes_test.ensures ∙ c.in_ok-sizes_test.was)).high

pub returns-in_err-both_test : goal.returns-in_err-both_test
returns-in_err-both_test c = rw (handed c.from_residual-in_err-both_test.ensures.1) (first_next _ _ c.sizes_test.ensures c.in_ok-sizes_test.was (first_stop _ _ c.both_test.ensures c.in_err-both_test.was) ∙ sym (append-tests _ _ _))

pub returns-then-ncols-more_ncols : goal.returns-then-ncols-more_ncols
unfolding refuse
returns-then-ncols-more_ncols c = first_next _ _ c.sizes_test.ensures c.in_ok-sizes_test.was (first_next _ _ c.both_test.ensures c.in_ok-both_test.was (lowest_last (rw (ne_eqb c.args.matrix.ncols c.args.other.ncols (λ e. omega (arith, c.if-ncols-more_ncols.true)))))) ∙ sym (append-tests _ _ _)

pub returns : goal.returns
unfolding refuse
returns c = first_next _ _ c.sizes_test.ensures c.in_ok-sizes_test.was (first_next _ _ c.both_test.ensures c.in_ok-both_test.was (lowest_last (rw (eq-eqb _ _ c.if-ncols-more_ncols.false)))) ∙ sym (append-tests _ _ _)
