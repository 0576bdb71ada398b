-- `det_test` meets its contract: each `return` gives the lowest of the tests before it.
-- Assumes nothing.
use mathlib.Core.Path.{refl}
use Rattle.sparse.proofs.Firsts.{lowest_stop, lowest_next, lowest_last, handed}
use Rattle.determinant.specs.Det.{det_test}
use Rattle.determinant.proofs.Dets.{not_square, square, dense_short, table_short, both_long}
use Rattle.determinant.proofs.calls.det_test.Goals as goal

pub returns-in_err-try_from_csr_clean : goal.returns-in_err-try_from_csr_clean
unfolding det_test
returns-in_err-try_from_csr_clean c = rw (handed c.from_residual.ensures.1) (lowest_stop _ c.try_from_csr_clean.ensures c.in_err-try_from_csr_clean.was)

pub returns-then-nrows-ncols : goal.returns-then-nrows-ncols
unfolding det_test
returns-then-nrows-ncols c = lowest_next _ c.try_from_csr_clean.ensures c.in_ok-try_from_csr_clean.was (lowest_stop _ (not_square _ _ c.if-nrows-ncols.true) refl)

pub returns-then-dense-ncols : goal.returns-then-dense-ncols
unfolding det_test
returns-then-dense-ncols c = lowest_next _ c.try_from_csr_clean.ensures c.in_ok-try_from_csr_clean.was (lowest_next _ (square _ _ c.if-nrows-ncols.false) refl (lowest_stop _ (dense_short _ _ _ c.if-dense-ncols.true) refl))

pub returns-then-pivots-ncols : goal.returns-then-pivots-ncols
unfolding det_test
returns-then-pivots-ncols c = lowest_next _ c.try_from_csr_clean.ensures c.in_ok-try_from_csr_clean.was (lowest_next _ (square _ _ c.if-nrows-ncols.false) refl (lowest_stop _ (table_short _ _ _ c.if-dense-ncols.false c.if-pivots-ncols.true) refl))

pub returns : goal.returns
unfolding det_test
returns c = lowest_next _ c.try_from_csr_clean.ensures c.in_ok-try_from_csr_clean.was (lowest_next _ (square _ _ c.if-nrows-ncols.false) refl (lowest_next _ (both_long _ _ _ c.if-dense-ncols.false c.if-pivots-ncols.false) refl (lowest_last c.start_test.ensures)))
