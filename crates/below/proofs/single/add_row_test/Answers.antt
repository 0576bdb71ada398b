-- `add_row_test` meets its contract: sizes, then forms.
-- Assumes nothing.
use mathlib.Core.Path.{sym, ◌∙◌}
use Rattle.sparse.proofs.Firsts.{handed}
use Rattle.writing.proofs.Lowests.{first_stop, first_next}
use Rattle.joining.proofs.Formed.{first_small}
use Rattle.below.proofs.Passed.{row_tests_lem}
use Rattle.below.proofs.single.add_row_test.Goals as goal

pub returns-in_err-sizes_test : goal.returns-in_err-sizes_test
returns-in_err-sizes_test c = rw (handed c.from_residual.ensures.1) (first_stop _ _ c.sizes_test.ensures c.in_err-sizes_test.was ∙ sym (row_tests_lem _ _ _ _))

pub forms_test-requires : goal.forms_test-requires
forms_test-requires c = (first_small _ _ _ _ _ _ _ _ _ (sym c.sizes_test.ensures ∙ c.in_ok-sizes_test.was)).high

pub returns : goal.returns
returns c = first_next _ _ c.sizes_test.ensures c.in_ok-sizes_test.was c.forms_test.ensures ∙ sym (row_tests_lem _ _ _ _)
