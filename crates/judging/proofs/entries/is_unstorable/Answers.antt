-- `is_unstorable` meets its contract: each `return` goes by the parts of the clause before it.
-- Assumes nothing.
use native.Mathlib.Omega.{arith}
use borrow.Author.Tests.{eq-eqb, ne_eqb}
use Rattle.accounts.specs.Judgement.{unstorable}
use Rattle.judging.proofs.entries.is_unstorable.Goals as goal

pub returns-then-value-eq0 : goal.returns-then-value-eq0
unfolding unstorable
returns-then-value-eq0 c = rw (eq-eqb c.args.value 0 (omega (arith, c.if-value-eq0.true)))

pub returns : goal.returns
unfolding unstorable
returns c = rw (ne_eqb c.args.value 0 (λ e. c.if-value-eq0.false (omega arith)))
