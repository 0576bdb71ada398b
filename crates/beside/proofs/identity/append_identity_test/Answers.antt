-- `append_identity_test` meets its contract: the tests stand in the table's order, so the first that refuses decides.
-- Assumes nothing.
use mathlib.Core.Path.{◌≡◌, sym, ◌∙◌}
use mathlib.Core.Bool.{not}
use mathlib.Core.List.{List, [], ◌∷◌}
use Prim.Native.Nat.{ℕ, ◌+◌}
use native.Mathlib.Omega.{arith}
use lib.Dec.{eqb}
use lib.ListN.{length, drop}
use borrow.Author.Tests.{eq-eqb, ne_eqb}
use Rattle.sparse.specs.Matrix.{Matrix, seen}
use Rattle.sparse.specs.Refusals.{refuse, lowest, Tested}
use Rattle.sparse.specs.Tests.{modulus_test, size_test, matrix_test}
use Rattle.sparse.specs.declared.Refusal.TheVariants.{NotSquare}
use Rattle.sparse.proofs.Cuts.{Small, small}
use Rattle.sparse.proofs.Firsts.{lowest_stop, lowest_next, lowest_last, handed}
use Rattle.beside.specs.Beside.{append_identity_test}
use Rattle.beside.proofs.identity.append_identity_test.Goals as goal
use Rattle.beside.proofs.identity.append_identity_test.Goals.{In_ok-modulus_test, In_ok-matrix_test, In_ok-size_test-2, In_ok-size_test}

abbrev tests : ℕ → Matrix → List Tested
tests p m =
    modulus_test p
    ∷ size_test 65536 m.nrows m.ncols (length m.values)
    ∷ size_test 65536 m.nrows (m.ncols + m.nrows) (length m.values + m.nrows)
    ∷ matrix_test p m
    ∷ refuse (not (eqb m.nrows m.ncols)) NotSquare
    ∷ []

-- after each test that found nothing, the rest decides
past_modulus : (c : In_ok-modulus_test) {x : Tested} → x ≡ lowest (drop 1 (tests c.args.p (seen c.args.matrix))) → x ≡ lowest (tests c.args.p (seen c.args.matrix))
past_modulus c h = lowest_next _ c.modulus_test.ensures c.in_ok-modulus_test.was h

past_size : (c : In_ok-size_test) {x : Tested} → x ≡ lowest (drop 2 (tests c.args.p (seen c.args.matrix))) → x ≡ lowest (tests c.args.p (seen c.args.matrix))
past_size c h = (lowest_next _ c.modulus_test.ensures c.in_ok-modulus_test.was (lowest_next _ c.size_test.ensures c.in_ok-size_test.was h))

past_joined : (c : In_ok-size_test-2) {x : Tested} → x ≡ lowest (drop 3 (tests c.args.p (seen c.args.matrix))) → x ≡ lowest (tests c.args.p (seen c.args.matrix))
past_joined c h = (lowest_next _ c.modulus_test.ensures c.in_ok-modulus_test.was (lowest_next _ c.size_test.ensures c.in_ok-size_test.was (lowest_next _ c.size_test-2.ensures c.in_ok-size_test-2.was h)))

past_formed : (c : In_ok-matrix_test) {x : Tested} → x ≡ lowest (drop 4 (tests c.args.p (seen c.args.matrix))) → x ≡ lowest (tests c.args.p (seen c.args.matrix))
past_formed c h = (lowest_next _ c.modulus_test.ensures c.in_ok-modulus_test.was (lowest_next _ c.size_test.ensures c.in_ok-size_test.was (lowest_next _ c.size_test-2.ensures c.in_ok-size_test-2.was (lowest_next _ c.matrix_test.ensures c.in_ok-matrix_test.was h))))

within : (c : In_ok-size_test) → let m = (seen c.args.matrix) in Small 65536 m.nrows m.ncols (length m.values)
within c = small _ _ _ _ (sym c.size_test.ensures ∙ c.in_ok-size_test.was)

pub returns-in_err-modulus_test : goal.returns-in_err-modulus_test
unfolding append_identity_test
returns-in_err-modulus_test c = rw (handed c.from_residual.ensures.1) (lowest_stop _ c.modulus_test.ensures c.in_err-modulus_test.was)

pub returns-in_err-size_test : goal.returns-in_err-size_test
unfolding append_identity_test
returns-in_err-size_test c = rw (handed c.from_residual-in_err-size_test.ensures.1) (past_modulus (goal.at.returns-in_err-size_test c).In_ok-modulus_test (lowest_stop _ c.size_test.ensures c.in_err-size_test.was))

pub overflow_add-ncols : goal.overflow_add-ncols
overflow_add-ncols c = omega (arith, within (goal.at.overflow_add-ncols c).In_ok-size_test)

pub returns-in_err-size_test-2 : goal.returns-in_err-size_test-2
unfolding append_identity_test
returns-in_err-size_test-2 c = rw (handed c.from_residual-in_err-size_test-2.ensures.1) (past_size (goal.at.returns-in_err-size_test-2 c).In_ok-size_test (lowest_stop _ c.size_test-2.ensures c.in_err-size_test-2.was))

pub matrix_test-requires : goal.matrix_test-requires
matrix_test-requires c = (within (goal.at.matrix_test-requires c).In_ok-size_test).high

pub returns-in_err-matrix_test : goal.returns-in_err-matrix_test
unfolding append_identity_test
returns-in_err-matrix_test c = rw (handed c.from_residual-in_err-matrix_test.ensures.1) (past_joined (goal.at.returns-in_err-matrix_test c).In_ok-size_test-2 (lowest_stop _ c.matrix_test.ensures c.in_err-matrix_test.was))

pub returns-then-nrows-ncols : goal.returns-then-nrows-ncols
unfolding append_identity_test refuse
returns-then-nrows-ncols c = past_formed (goal.at.returns-then-nrows-ncols c).In_ok-matrix_test (lowest_last (rw (ne_eqb _ _ c.if-nrows-ncols.true)))

pub returns : goal.returns
unfolding append_identity_test refuse
returns c = past_formed (goal.at.returns c).In_ok-matrix_test (lowest_last (rw (eq-eqb _ _ c.if-nrows-ncols.false)))
