-- `try_from_csr_vector` meets its contract: each `return` gives the lowest of the tests before it.
-- Assumes nothing.
use mathlib.Core.Path.{◌≡◌, refl}
use mathlib.Core.List.{List, ◌∷◌}
use native.Mathlib.Omega.{arith}
use lib.ListN.{length}
use borrow.Author.Tests.{eq-eqb, ne_eqb}
use Rattle.sparse.specs.Refusals.{refuse, lowest, Tested}
use Rattle.sparse.specs.Tests.{modulus_test, size_test}
use Rattle.sparse.proofs.Firsts.{lowest_stop, lowest_next, lowest_last, handed}
use Rattle.sparse.proofs.Vectors.{vector_tests}
use Rattle.sparse.proofs.tests.try_from_csr_vector.Goals as goal
use Rattle.sparse.proofs.tests.try_from_csr_vector.Goals.{In_ok-size_test}

pub returns-in_err-modulus_test : goal.returns-in_err-modulus_test
returns-in_err-modulus_test c = rw (handed c.from_residual.ensures.1) (rw vector_tests (lowest_stop _ c.modulus_test.ensures c.in_err-modulus_test.was))

pub returns-in_err-size_test : goal.returns-in_err-size_test
returns-in_err-size_test c = rw (handed c.from_residual-in_err-size_test.ensures.1) (rw vector_tests
    (lowest_next _ c.modulus_test.ensures c.in_ok-modulus_test.was
    (lowest_stop _ c.size_test.ensures c.in_err-size_test.was)))

-- past 1 and 2
past_size : (c : In_ok-size_test) {x : Tested} (ts : List Tested) → x ≡ lowest ts → x ≡ lowest (modulus_test c.args.p ∷ size_test 65536 1 c.args.len (length c.args.values.now) ∷ ts)
past_size c ts h =
    lowest_next _ c.modulus_test.ensures c.in_ok-modulus_test.was
    (lowest_next _ c.size_test.ensures c.in_ok-size_test.was h)

pub returns-then-idcs-values : goal.returns-then-idcs-values
unfolding refuse
returns-then-idcs-values c = let a = c.args in
    rw vector_tests
    (past_size (goal.at.returns-then-idcs-values c).In_ok-size_test _
    (lowest_stop _ (simp (ne_eqb (length a.idcs.now) (length a.values.now) (λ e. omega arith))) refl))

pub returns-in_err-columns_test : goal.returns-in_err-columns_test
unfolding refuse
returns-in_err-columns_test c = rw (handed c.from_residual-in_err-columns_test.ensures.1) (let a = c.args in
    rw vector_tests
    (past_size (goal.at.returns-in_err-columns_test c).In_ok-size_test _
    (lowest_next _ (simp (eq-eqb (length a.idcs.now) (length a.values.now) (omega (arith, c.if-idcs-values)))) refl
    (lowest_stop _ c.columns_test.ensures c.in_err-columns_test.was))))

pub returns : goal.returns
unfolding refuse
returns c = let a = c.args in
    rw vector_tests
    (past_size (goal.at.returns c).In_ok-size_test _
    (lowest_next _ (simp (eq-eqb (length a.idcs.now) (length a.values.now) (omega (arith, c.if-idcs-values)))) refl
    (lowest_next _ c.columns_test.ensures c.in_ok-columns_test.was (lowest_last c.values_test.ensures))))
