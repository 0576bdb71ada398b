-- `table_test` meets its contract: the tests stand in the table's order, so the first that refuses decides.
-- Assumes nothing.
use mathlib.Core.Path.{◌≡◌, sym, ◌∙◌}
use mathlib.Core.List.{List, [], ◌∷◌}
use Prim.Native.Nat.{ℕ}
use lib.ListN.{length, drop}
use Rattle.sparse.specs.Matrix.{Matrix, seen}
use Rattle.sparse.specs.Pivots.{pivots_test}
use Rattle.sparse.specs.Refusals.{lowest, Tested}
use Rattle.sparse.specs.Tests.{modulus_test, size_test, matrix_test}
use Rattle.sparse.proofs.Cuts.{small}
use Rattle.sparse.proofs.Firsts.{lowest_stop, lowest_next, lowest_last, handed}
use Rattle.pivots.specs.Tables.{table_test}
use Rattle.pivots.proofs.inside.table_test.Goals as goal
use Rattle.pivots.proofs.inside.table_test.Goals.{In_ok-modulus_test, In_ok-matrix_test, In_ok-length_test, In_ok-size_test}

abbrev tests : ℕ → Matrix → List ℕ → List Tested
tests p m pivots =
    modulus_test p
    ∷ size_test 65536 m.nrows m.ncols (length m.values)
    ∷ size_test 65536 0 (length pivots) 0
    ∷ matrix_test p m
    ∷ pivots_test m.nrows pivots
    ∷ []

-- after each test that found nothing, the rest decides
past_modulus : (c : In_ok-modulus_test) {x : Tested} → x ≡ lowest (drop 1 (tests c.args.p (seen c.args.matrix) c.args.pivots.now)) → x ≡ lowest (tests c.args.p (seen c.args.matrix) c.args.pivots.now)
past_modulus c h = lowest_next _ c.modulus_test.ensures c.in_ok-modulus_test.was h

past_size : (c : In_ok-size_test) {x : Tested} → x ≡ lowest (drop 2 (tests c.args.p (seen c.args.matrix) c.args.pivots.now)) → x ≡ lowest (tests c.args.p (seen c.args.matrix) c.args.pivots.now)
past_size c h = (lowest_next _ c.modulus_test.ensures c.in_ok-modulus_test.was (lowest_next _ c.size_test.ensures c.in_ok-size_test.was h))

past_length : (c : In_ok-length_test) {x : Tested} → x ≡ lowest (drop 3 (tests c.args.p (seen c.args.matrix) c.args.pivots.now)) → x ≡ lowest (tests c.args.p (seen c.args.matrix) c.args.pivots.now)
past_length c h = (lowest_next _ c.modulus_test.ensures c.in_ok-modulus_test.was (lowest_next _ c.size_test.ensures c.in_ok-size_test.was (lowest_next _ c.length_test.ensures c.in_ok-length_test.was h)))

past_formed : (c : In_ok-matrix_test) {x : Tested} → x ≡ lowest (drop 4 (tests c.args.p (seen c.args.matrix) c.args.pivots.now)) → x ≡ lowest (tests c.args.p (seen c.args.matrix) c.args.pivots.now)
past_formed c h = (lowest_next _ c.modulus_test.ensures c.in_ok-modulus_test.was (lowest_next _ c.size_test.ensures c.in_ok-size_test.was (lowest_next _ c.length_test.ensures c.in_ok-length_test.was (lowest_next _ c.matrix_test.ensures c.in_ok-matrix_test.was h))))

pub returns-in_err-modulus_test : goal.returns-in_err-modulus_test
unfolding table_test
returns-in_err-modulus_test c = rw (handed c.from_residual.ensures.1) (lowest_stop _ c.modulus_test.ensures c.in_err-modulus_test.was)

pub returns-in_err-size_test : goal.returns-in_err-size_test
unfolding table_test
returns-in_err-size_test c = rw (handed c.from_residual-in_err-size_test.ensures.1) (past_modulus (goal.at.returns-in_err-size_test c).In_ok-modulus_test (lowest_stop _ c.size_test.ensures c.in_err-size_test.was))

pub returns-in_err-length_test : goal.returns-in_err-length_test
unfolding table_test
returns-in_err-length_test c = rw (handed c.from_residual-in_err-length_test.ensures.1) (past_size (goal.at.returns-in_err-length_test c).In_ok-size_test (lowest_stop _ c.length_test.ensures c.in_err-length_test.was))

pub matrix_test-requires : goal.matrix_test-requires
matrix_test-requires c = (small _ _ _ _ (sym c.size_test.ensures ∙ c.in_ok-size_test.was)).high

pub returns-in_err-matrix_test : goal.returns-in_err-matrix_test
unfolding table_test
returns-in_err-matrix_test c = rw (handed c.from_residual-in_err-matrix_test.ensures.1) (past_length (goal.at.returns-in_err-matrix_test c).In_ok-length_test (lowest_stop _ c.matrix_test.ensures c.in_err-matrix_test.was))

pub returns : goal.returns
unfolding table_test
returns c = past_formed (goal.at.returns c).In_ok-matrix_test (lowest_last c.pivots_test.ensures)
