-- `sizes_test` meets its contract: the first size that is over decides, and each sum is of numbers within the limits.
-- Assumes nothing.
use mathlib.Core.Path.{◌≡◌, sym, ◌∙◌}
use native.Mathlib.Omega.{arith}
use lib.ListN.{drop}
use Rattle.sparse.specs.Refusals.{lowest, Tested}
use Rattle.sparse.proofs.Cuts.{Small, small}
use Rattle.sparse.proofs.Firsts.{lowest_stop, lowest_next, lowest_last, handed}
use Rattle.joining.specs.Joined.{sizes_tests}
use Rattle.joining.proofs.inside.sizes_test.Goals as goal
use Rattle.joining.proofs.inside.sizes_test.Goals.{In_ok-modulus_test, In_ok-size_test, In_ok-size_test-2}

-- after each test that found nothing, the rest decides
past_modulus : (c : In_ok-modulus_test) {x : Tested} → x ≡ lowest (drop 1 (let a = c.args in sizes_tests a.p a.nrows a.ncols a.entries a.more_rows a.more_cols a.more_entries a.add_rows a.add_cols)) → x ≡ lowest (let a = c.args in sizes_tests a.p a.nrows a.ncols a.entries a.more_rows a.more_cols a.more_entries a.add_rows a.add_cols)
unfolding sizes_tests
past_modulus c h = lowest_next _ c.modulus_test.ensures c.in_ok-modulus_test.was h

past_first : (c : In_ok-size_test) {x : Tested} → x ≡ lowest (drop 2 (let a = c.args in sizes_tests a.p a.nrows a.ncols a.entries a.more_rows a.more_cols a.more_entries a.add_rows a.add_cols)) → x ≡ lowest (let a = c.args in sizes_tests a.p a.nrows a.ncols a.entries a.more_rows a.more_cols a.more_entries a.add_rows a.add_cols)
unfolding sizes_tests
past_first c h = (lowest_next _ c.modulus_test.ensures c.in_ok-modulus_test.was (lowest_next _ c.size_test.ensures c.in_ok-size_test.was h))

past_second : (c : In_ok-size_test-2) {x : Tested} → x ≡ lowest (drop 3 (let a = c.args in sizes_tests a.p a.nrows a.ncols a.entries a.more_rows a.more_cols a.more_entries a.add_rows a.add_cols)) → x ≡ lowest (let a = c.args in sizes_tests a.p a.nrows a.ncols a.entries a.more_rows a.more_cols a.more_entries a.add_rows a.add_cols)
unfolding sizes_tests
past_second c h = (lowest_next _ c.modulus_test.ensures c.in_ok-modulus_test.was (lowest_next _ c.size_test.ensures c.in_ok-size_test.was (lowest_next _ c.size_test-2.ensures c.in_ok-size_test-2.was h)))

one : (c : In_ok-size_test) → let a = c.args in Small 65536 a.nrows a.ncols a.entries
one c = small _ _ _ _ (sym c.size_test.ensures ∙ c.in_ok-size_test.was)

other : (c : In_ok-size_test-2) → let a = c.args in Small 65536 a.more_rows a.more_cols a.more_entries
other c = small _ _ _ _ (sym c.size_test-2.ensures ∙ c.in_ok-size_test-2.was)

pub returns-in_err-modulus_test : goal.returns-in_err-modulus_test
unfolding sizes_tests
returns-in_err-modulus_test c = rw (handed c.from_residual.ensures.1) (lowest_stop _ c.modulus_test.ensures c.in_err-modulus_test.was)

pub returns-in_err-size_test : goal.returns-in_err-size_test
unfolding sizes_tests
returns-in_err-size_test c = rw (handed c.from_residual-in_err-size_test.ensures.1) (past_modulus (goal.at.returns-in_err-size_test c).In_ok-modulus_test (lowest_stop _ c.size_test.ensures c.in_err-size_test.was))

pub returns-in_err-size_test-2 : goal.returns-in_err-size_test-2
unfolding sizes_tests
returns-in_err-size_test-2 c = rw (handed c.from_residual-in_err-size_test-2.ensures.1) (past_first (goal.at.returns-in_err-size_test-2 c).In_ok-size_test (lowest_stop _ c.size_test-2.ensures c.in_err-size_test-2.was))

pub overflow_add-rows : goal.overflow_add-rows
overflow_add-rows c = omega (arith, one (goal.at.overflow_add-rows c).In_ok-size_test, other (goal.at.overflow_add-rows c).In_ok-size_test-2, c.requires.rows)

pub overflow_add-cols : goal.overflow_add-cols
overflow_add-cols c = omega (arith, one (goal.at.overflow_add-cols c).In_ok-size_test, c.requires.columns)

pub overflow_add-entries : goal.overflow_add-entries
overflow_add-entries c = omega (arith, one (goal.at.overflow_add-entries c).In_ok-size_test, other (goal.at.overflow_add-entries c).In_ok-size_test-2)

pub returns : goal.returns
unfolding sizes_tests
returns c = past_second (goal.at.returns c).In_ok-size_test-2 (lowest_last c.size_test-3.ensures)
