-- `u_fault` meets its contract: each `return` goes by the parts of the test before it.
-- Assumes nothing.
use Rattle.std.specs.Prelude.{is_err}
use mathlib.Core.Path.{sym, ◌∙◌}
use Rattle.state.specs.State.{u_fault}
use Rattle.state.proofs.Faults.{found, not_refused, clean_parts, formed_seated, seated_headed}
use Rattle.state.proofs.rows.u_fault.Goals as goal

pub returns-then-is_err : goal.returns-then-is_err
unfolding u_fault
returns-then-is_err c = rw (clean_parts c.requires, found c.matrix_test.ensures c.is_err.ensures.value c.if-is_err.true)

pub rows_values_test-requires : goal.rows_values_test-requires
rows_values_test-requires c = (formed_seated c.requires (not_refused _ (found c.matrix_test.ensures c.is_err.ensures.value c.if-is_err.false))).cut

pub returns-then-is_err-2 : goal.returns-then-is_err-2
unfolding u_fault
returns-then-is_err-2 c = rw (clean_parts c.requires, found c.matrix_test.ensures c.is_err.ensures.value c.if-is_err.false, found c.rows_values_test.ensures c.is_err-2.ensures.value c.if-is_err-2.true)

pub some_headless-requires : goal.some_headless-requires
some_headless-requires c = formed_seated c.requires (not_refused _ (found c.matrix_test.ensures c.is_err.ensures.value c.if-is_err.false))

pub returns-then-some_headless : goal.returns-then-some_headless
unfolding u_fault
returns-then-some_headless c = rw (clean_parts c.requires, found c.matrix_test.ensures c.is_err.ensures.value c.if-is_err.false, found c.rows_values_test.ensures c.is_err-2.ensures.value c.if-is_err-2.false, sym c.some_headless.ensures ∙ c.if-some_headless.true)

pub some_misplaced-requires : goal.some_misplaced-requires
some_misplaced-requires c = seated_headed c.requires (formed_seated c.requires (not_refused _ (found c.matrix_test.ensures c.is_err.ensures.value c.if-is_err.false))) (sym c.some_headless.ensures ∙ c.if-some_headless.false)

pub returns : goal.returns
unfolding u_fault
returns c = rw (clean_parts c.requires, found c.matrix_test.ensures c.is_err.ensures.value c.if-is_err.false, found c.rows_values_test.ensures c.is_err-2.ensures.value c.if-is_err-2.false, sym c.some_headless.ensures ∙ c.if-some_headless.false)
    c.some_misplaced.ensures
