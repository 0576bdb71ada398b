-- `both_test` meets its contract: the tests stand in the table's order, so the first that refuses decides.
-- Assumes nothing.
use Rattle.std.specs.Prelude.{Ok}
use mathlib.Core.Path.{◌≡◌, sym, ap₂, ◌∙◌}
use native.Mathlib.Omega.{arith}
use lib.ListN.{drop}
use Rattle.sparse.specs.Matrix.{Matrix, seen}
use Rattle.sparse.specs.Refusals.{lowest, Tested}
use Rattle.sparse.specs.Tests.{shape_test, rows_test}
use Rattle.sparse.proofs.Cuts.{pointers, cut}
use Rattle.sparse.proofs.Firsts.{lowest_stop, lowest_next, lowest_last, handed}
use Rattle.below.specs.Below.{lower}
use Rattle.below.specs.Parts.{both_tests}
use Rattle.below.proofs.Passed.{lower_good}
use Rattle.below.proofs.matrices.both_test.Goals as goal
use Rattle.below.proofs.matrices.both_test.Goals.{After-lower_of, In_ok-shape_test, In_ok-shape_test-2, In_ok-rows_values_test, In_ok-lower_of}

abbrev rows_of : Matrix → Tested
rows_of m = rows_test m.nrows m.ncols m.row_ptrs m.col_idcs

one_shaped : (c : In_ok-shape_test) → shape_test (seen c.args.matrix) ≡ Ok tt
one_shaped c = sym c.shape_test.ensures ∙ c.in_ok-shape_test.was

two_shaped : (c : In_ok-shape_test-2) → shape_test (seen c.args.other) ≡ Ok tt
two_shaped c = sym c.shape_test-2.ensures ∙ c.in_ok-shape_test-2.was

found : (c : After-lower_of) → c.lower_of.result ≡ lower (rows_of (seen c.args.matrix)) (rows_of (seen c.args.other))
found c = c.lower_of.ensures ∙ ap₂ lower c.rows_test-one.ensures c.rows_test-two.ensures

lined : (c : In_ok-lower_of) → (rows_of (seen c.args.matrix) ≡ Ok tt) × (rows_of (seen c.args.other) ≡ Ok tt)
lined c = lower_good _ _ (sym (c.lower_of.ensures ∙ ap₂ lower c.rows_test-one.ensures c.rows_test-two.ensures) ∙ c.in_ok-lower_of.was)

-- after each test that found nothing, the rest decides
past_one : (c : In_ok-shape_test) {x : Tested} → x ≡ lowest (drop 1 (both_tests c.args.p (seen c.args.matrix) (seen c.args.other))) → x ≡ lowest (both_tests c.args.p (seen c.args.matrix) (seen c.args.other))
unfolding both_tests
past_one c h = lowest_next _ c.shape_test.ensures c.in_ok-shape_test.was h

past_two : (c : In_ok-shape_test-2) {x : Tested} → x ≡ lowest (drop 2 (both_tests c.args.p (seen c.args.matrix) (seen c.args.other))) → x ≡ lowest (both_tests c.args.p (seen c.args.matrix) (seen c.args.other))
unfolding both_tests
past_two c h = (lowest_next _ c.shape_test.ensures c.in_ok-shape_test.was (lowest_next _ c.shape_test-2.ensures c.in_ok-shape_test-2.was h))

past_rows : (c : In_ok-lower_of) {x : Tested} → x ≡ lowest (drop 3 (both_tests c.args.p (seen c.args.matrix) (seen c.args.other))) → x ≡ lowest (both_tests c.args.p (seen c.args.matrix) (seen c.args.other))
unfolding both_tests
past_rows c h = (lowest_next _ c.shape_test.ensures c.in_ok-shape_test.was (lowest_next _ c.shape_test-2.ensures c.in_ok-shape_test-2.was (lowest_next _ (c.lower_of.ensures ∙ ap₂ lower c.rows_test-one.ensures c.rows_test-two.ensures) c.in_ok-lower_of.was h)))

past_residues : (c : In_ok-rows_values_test) {x : Tested} → x ≡ lowest (drop 4 (both_tests c.args.p (seen c.args.matrix) (seen c.args.other))) → x ≡ lowest (both_tests c.args.p (seen c.args.matrix) (seen c.args.other))
unfolding both_tests
past_residues c h = (lowest_next _ c.shape_test.ensures c.in_ok-shape_test.was (lowest_next _ c.shape_test-2.ensures c.in_ok-shape_test-2.was (lowest_next _ (c.lower_of.ensures ∙ ap₂ lower c.rows_test-one.ensures c.rows_test-two.ensures) c.in_ok-lower_of.was (lowest_next _ c.rows_values_test.ensures c.in_ok-rows_values_test.was h))))

pub shape_test-requires : goal.shape_test-requires
shape_test-requires c = omega (arith, c.requires)

pub returns-in_err-shape_test : goal.returns-in_err-shape_test
unfolding both_tests
returns-in_err-shape_test c = rw (handed c.from_residual.ensures.1) (lowest_stop _ c.shape_test.ensures c.in_err-shape_test.was)

pub shape_test-requires-2 : goal.shape_test-requires-2
shape_test-requires-2 c = omega (arith, c.requires)

pub returns-in_err-shape_test-2 : goal.returns-in_err-shape_test-2
unfolding both_tests
returns-in_err-shape_test-2 c = rw (handed c.from_residual-in_err-shape_test-2.ensures.1) (past_one (goal.at.returns-in_err-shape_test-2 c).In_ok-shape_test (lowest_stop _ c.shape_test-2.ensures c.in_err-shape_test-2.was))

pub rows_test-one-requires : goal.rows_test-one-requires
rows_test-one-requires c = pointers _ (one_shaped (goal.at.rows_test-one-requires c).In_ok-shape_test)

pub rows_test-two-requires : goal.rows_test-two-requires
rows_test-two-requires c = pointers _ (two_shaped (goal.at.rows_test-two-requires c).In_ok-shape_test-2)

pub returns-in_err-lower_of : goal.returns-in_err-lower_of
unfolding both_tests
returns-in_err-lower_of c = rw (handed c.from_residual-in_err-lower_of.ensures.1) (past_two (goal.at.returns-in_err-lower_of c).In_ok-shape_test-2 (lowest_stop _ (found (goal.at.returns-in_err-lower_of c).After-lower_of) c.in_err-lower_of.was))

pub rows_values_test-requires : goal.rows_values_test-requires
rows_values_test-requires c = cut _ (one_shaped (goal.at.rows_values_test-requires c).In_ok-shape_test) (lined (c)).0

pub returns-in_err-rows_values_test : goal.returns-in_err-rows_values_test
unfolding both_tests
returns-in_err-rows_values_test c = rw (handed c.from_residual-in_err-rows_values_test.ensures.1) (past_rows (goal.at.returns-in_err-rows_values_test c).In_ok-lower_of (lowest_stop _ c.rows_values_test.ensures c.in_err-rows_values_test.was))

pub rows_values_test-requires-2 : goal.rows_values_test-requires-2
rows_values_test-requires-2 c = cut _ (two_shaped (goal.at.rows_values_test-requires-2 c).In_ok-shape_test-2) (lined (goal.at.rows_values_test-requires-2 c).In_ok-lower_of).1

pub returns : goal.returns
unfolding both_tests
returns c = past_residues (goal.at.returns c).In_ok-rows_values_test (lowest_last c.rows_values_test-2.ensures)
