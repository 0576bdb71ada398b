-- `forms_test` meets its contract: the tests stand in the table's order, so the first that refuses decides.
-- Assumes nothing.
use Rattle.std.specs.Prelude.{Ok}
use mathlib.Core.Path.{◌≡◌, refl, sym, ◌∙◌}
use lib.ListN.{drop}
use borrow.Author.Tests.{eq-eqb, ne_eqb}
use Rattle.sparse.specs.Matrix.{seen}
use Rattle.sparse.specs.Refusals.{refuse, lowest, Tested}
use Rattle.sparse.specs.Tests.{shape_test, rows_test}
use Rattle.sparse.proofs.Cuts.{pointers, cut}
use Rattle.sparse.proofs.Firsts.{lowest_stop, lowest_next, lowest_last, handed}
use Rattle.joining.specs.Joined.{forms_tests, pairs_test}
use Rattle.joining.proofs.inside.forms_test.Goals as goal
use Rattle.joining.proofs.inside.forms_test.Goals.{Else-idcs-nums, In_ok-shape_test, In_ok-columns_test, In_ok-rows_values_test, In_ok-rows_test}

shaped : (c : In_ok-shape_test) → shape_test (seen c.args.matrix) ≡ Ok tt
shaped c = sym c.shape_test.ensures ∙ c.in_ok-shape_test.was

lined : (c : In_ok-rows_test) → let m = (seen c.args.matrix) in rows_test m.nrows m.ncols m.row_ptrs m.col_idcs ≡ Ok tt
lined c = sym c.rows_test.ensures ∙ c.in_ok-rows_test.was

-- after each test that found nothing, the rest decides
past_shape : (c : In_ok-shape_test) {x : Tested} → x ≡ lowest (drop 1 (forms_tests c.args.p (seen c.args.matrix) c.args.len c.args.idcs.now c.args.nums.now)) → x ≡ lowest (forms_tests c.args.p (seen c.args.matrix) c.args.len c.args.idcs.now c.args.nums.now)
unfolding forms_tests
past_shape c h = lowest_next _ c.shape_test.ensures c.in_ok-shape_test.was h

past_pairs : (c : Else-idcs-nums) {x : Tested} → x ≡ lowest (drop 2 (forms_tests c.args.p (seen c.args.matrix) c.args.len c.args.idcs.now c.args.nums.now)) → x ≡ lowest (forms_tests c.args.p (seen c.args.matrix) c.args.len c.args.idcs.now c.args.nums.now)
unfolding forms_tests pairs_test refuse
past_pairs c h = (lowest_next _ c.shape_test.ensures c.in_ok-shape_test.was (lowest_next _ refl (rw (eq-eqb _ _ c.if-idcs-nums.false)) h))

past_rows : (c : In_ok-rows_test) {x : Tested} → x ≡ lowest (drop 3 (forms_tests c.args.p (seen c.args.matrix) c.args.len c.args.idcs.now c.args.nums.now)) → x ≡ lowest (forms_tests c.args.p (seen c.args.matrix) c.args.len c.args.idcs.now c.args.nums.now)
unfolding forms_tests pairs_test refuse
past_rows c h = (lowest_next _ c.shape_test.ensures c.in_ok-shape_test.was (lowest_next _ refl (rw (eq-eqb _ _ c.if-idcs-nums.false)) (lowest_next _ c.rows_test.ensures c.in_ok-rows_test.was h)))

past_columns : (c : In_ok-columns_test) {x : Tested} → x ≡ lowest (drop 4 (forms_tests c.args.p (seen c.args.matrix) c.args.len c.args.idcs.now c.args.nums.now)) → x ≡ lowest (forms_tests c.args.p (seen c.args.matrix) c.args.len c.args.idcs.now c.args.nums.now)
unfolding forms_tests pairs_test refuse
past_columns c h = (lowest_next _ c.shape_test.ensures c.in_ok-shape_test.was (lowest_next _ refl (rw (eq-eqb _ _ c.if-idcs-nums.false)) (lowest_next _ c.rows_test.ensures c.in_ok-rows_test.was (lowest_next _ c.columns_test.ensures c.in_ok-columns_test.was h))))

past_residues : (c : In_ok-rows_values_test) {x : Tested} → x ≡ lowest (drop 5 (forms_tests c.args.p (seen c.args.matrix) c.args.len c.args.idcs.now c.args.nums.now)) → x ≡ lowest (forms_tests c.args.p (seen c.args.matrix) c.args.len c.args.idcs.now c.args.nums.now)
unfolding forms_tests pairs_test refuse
past_residues c h = (lowest_next _ c.shape_test.ensures c.in_ok-shape_test.was (lowest_next _ refl (rw (eq-eqb _ _ c.if-idcs-nums.false)) (lowest_next _ c.rows_test.ensures c.in_ok-rows_test.was (lowest_next _ c.columns_test.ensures c.in_ok-columns_test.was (lowest_next _ c.rows_values_test.ensures c.in_ok-rows_values_test.was h)))))

pub returns-in_err-shape_test : goal.returns-in_err-shape_test
unfolding forms_tests
returns-in_err-shape_test c = rw (handed c.from_residual.ensures.1) (lowest_stop _ c.shape_test.ensures c.in_err-shape_test.was)

pub returns-then-idcs-nums : goal.returns-then-idcs-nums
unfolding forms_tests pairs_test refuse
returns-then-idcs-nums c = past_shape (goal.at.returns-then-idcs-nums c).In_ok-shape_test (lowest_stop _ refl (rw (ne_eqb _ _ c.if-idcs-nums.true)))

pub rows_test-requires : goal.rows_test-requires
rows_test-requires c = pointers _ (shaped (goal.at.rows_test-requires c).In_ok-shape_test)

pub returns-in_err-rows_test : goal.returns-in_err-rows_test
unfolding forms_tests
returns-in_err-rows_test c = rw (handed c.from_residual-in_err-rows_test.ensures.1) (past_pairs (goal.at.returns-in_err-rows_test c).Else-idcs-nums (lowest_stop _ c.rows_test.ensures c.in_err-rows_test.was))

pub returns-in_err-columns_test : goal.returns-in_err-columns_test
unfolding forms_tests
returns-in_err-columns_test c = rw (handed c.from_residual-in_err-columns_test.ensures.1) (past_rows (goal.at.returns-in_err-columns_test c).In_ok-rows_test (lowest_stop _ c.columns_test.ensures c.in_err-columns_test.was))

pub rows_values_test-requires : goal.rows_values_test-requires
rows_values_test-requires c = cut _ (shaped (goal.at.rows_values_test-requires c).In_ok-shape_test) (lined (goal.at.rows_values_test-requires c).In_ok-rows_test)

pub returns-in_err-rows_values_test : goal.returns-in_err-rows_values_test
unfolding forms_tests
returns-in_err-rows_values_test c = rw (handed c.from_residual-in_err-rows_values_test.ensures.1) (past_columns (goal.at.returns-in_err-rows_values_test c).In_ok-columns_test (lowest_stop _ c.rows_values_test.ensures c.in_err-rows_values_test.was))

pub returns : goal.returns
unfolding forms_tests
returns c = past_residues (goal.at.returns c).In_ok-rows_values_test (lowest_last c.values_test.ensures)
