-- `append_col_test` meets its contract: sizes, then forms, then 11.
-- Assumes nothing.
use mathlib.Core.Path.{sym, ◌∙◌}
use borrow.Author.Tests.{eq-eqb, ne_eqb}
use Rattle.sparse.specs.Refusals.{refuse}
use Rattle.sparse.proofs.Firsts.{lowest_last, handed}
use Rattle.writing.proofs.Lowests.{first_stop, first_next}
use Rattle.joining.proofs.Formed.{first_small}
use Rattle.beside.proofs.Passed.{col_tests}
use Rattle.beside.proofs.column.append_col_test.Goals as goal

pub returns-in_err-sizes_test : goal.returns-in_err-sizes_test
returns-in_err-sizes_test c = rw (handed c.from_residual.ensures.1) (first_stop _ _ c.sizes_test.ensures c.in_err-sizes_test.was ∙ sym (col_tests _ _ _ _ _))

pub forms_test-requires : goal.forms_test-requires
forms_test-requires c = (first_small _ _ _ _ _ _ _ _ _ (sym c.sizes_test.ensures ∙ c.in_ok-sizes_test.was)).high

pub returns-in_err-forms_test : goal.returns-in_err-forms_test
returns-in_err-forms_test c = rw (handed c.from_residual-in_err-forms_test.ensures.1) (first_next _ _ c.sizes_test.ensures c.in_ok-sizes_test.was (first_stop _ _ c.forms_test.ensures c.in_err-forms_test.was) ∙ sym (col_tests _ _ _ _ _))

pub returns-then-len-nrows : goal.returns-then-len-nrows
unfolding refuse
returns-then-len-nrows c = first_next _ _ c.sizes_test.ensures c.in_ok-sizes_test.was (first_next _ _ c.forms_test.ensures c.in_ok-forms_test.was (lowest_last (rw (ne_eqb _ _ c.if-len-nrows.true)))) ∙ sym (col_tests _ _ _ _ _)

pub returns : goal.returns
unfolding refuse
returns c = first_next _ _ c.sizes_test.ensures c.in_ok-sizes_test.was (first_next _ _ c.forms_test.ensures c.in_ok-forms_test.was (lowest_last (rw (eq-eqb _ _ c.if-len-nrows.false)))) ∙ sym (col_tests _ _ _ _ _)
