-- `value_test` meets its contract: each `return` goes by the arm and the test before it.
-- Assumes nothing.
use native.Mathlib.Omega.{arith}
use borrow.Author.Tests.{le-leb, lt-leb, eq-eqb, ne_eqb}
use Rattle.sparse.specs.Refusals.{refuse}
use Rattle.sparse.specs.Tests.{value_test}
use Rattle.sparse.proofs.inside.value_test.Goals as goal

pub returns-then-value-p : goal.returns-then-value-p
unfolding value_test refuse
returns-then-value-p c = let a = c.args in
    simp (c.in-Residue.is, le-leb a.p a.value (omega arith))

pub returns-then-value-eq0 : goal.returns-then-value-eq0
unfolding value_test refuse
returns-then-value-eq0 c = let a = c.args in
    simp (c.in-Nonzero.is, eq-eqb a.value 0 (omega arith))

pub returns-else-value-p : goal.returns-else-value-p
unfolding value_test refuse
returns-else-value-p c = let a = c.args in
    simp (c.in-Residue.is, lt-leb a.p a.value (omega arith))

pub returns-else-value-eq0 : goal.returns-else-value-eq0
unfolding value_test refuse
returns-else-value-eq0 c = let a = c.args in
    simp (c.in-Nonzero.is, ne_eqb a.value 0 (λ e. omega arith))
