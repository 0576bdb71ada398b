-- `is_broken` meets its contract: each `return` goes by the parts of the clause before it.
-- Assumes nothing.
use native.Mathlib.Omega.{arith}
use borrow.Author.Tests.{eq-eqb, ne_eqb}
use Rattle.accounts.specs.Tests.{broken}
use Rattle.checking.proofs.tests.is_broken.Goals as goal

pub returns-then-cols-vals : goal.returns-then-cols-vals
unfolding broken
returns-then-cols-vals c = rw (ne_eqb _ _ c.if-cols-vals.true)

pub returns-then-ptrs-eq0 : goal.returns-then-ptrs-eq0
unfolding broken
returns-then-ptrs-eq0 c = rw (eq-eqb _ _ c.if-cols-vals.false, eq-eqb _ _ c.if-ptrs-eq0.true)

pub is_crooked-requires : goal.is_crooked-requires
is_crooked-requires c = omega (arith, c.if-ptrs-eq0.false)

pub returns : goal.returns
unfolding broken
returns c = rw (eq-eqb _ _ c.if-cols-vals.false, ne_eqb _ _ c.if-ptrs-eq0.false) c.is_crooked.ensures
