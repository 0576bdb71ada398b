-- `modulus_test` meets its contract.
-- Assumes nothing.
use mathlib.Core.Path.{sym, ◌∙◌}
use Rattle.sparse.specs.Refusals.{refuse}
use Rattle.sparse.specs.Tests.{modulus_test}
use Rattle.sparse.proofs.inside.modulus_test.Goals as goal

pub returns-then-is_modulus : goal.returns-then-is_modulus
unfolding modulus_test refuse
returns-then-is_modulus c = simp (sym c.is_modulus.ensures ∙ c.if-is_modulus.true)

pub returns : goal.returns
unfolding modulus_test refuse
returns c = simp (sym c.is_modulus.ensures ∙ c.if-is_modulus.false)
