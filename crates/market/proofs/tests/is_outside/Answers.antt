-- `tests::is_outside` meets its contract.
-- Assumes nothing.
use native.Mathlib.Omega.{arith}
use borrow.Author.Tests.{lt-ltb, le-ltb, eq-eqb, ne_eqb}
use Rattle.market.specs.Tests.{outside}
use Rattle.market.proofs.tests.is_outside.Goals as goal

pub returns-then-entry-eq0 : goal.returns-then-entry-eq0
unfolding outside
returns-then-entry-eq0 c = rw (eq-eqb c.args.entry.row 0 (omega (arith, c.if-entry-eq0.true)))

pub returns-then-entry-size : goal.returns-then-entry-size
unfolding outside
returns-then-entry-size c = rw (ne_eqb c.args.entry.row 0 (λ e. c.if-entry-eq0.false (omega arith)), lt-ltb _ _ c.if-entry-size.true)

pub returns-then-entry-eq0-2 : goal.returns-then-entry-eq0-2
unfolding outside
returns-then-entry-eq0-2 c = rw (ne_eqb c.args.entry.row 0 (λ e. c.if-entry-eq0.false (omega arith)), le-ltb _ _ c.if-entry-size.false, eq-eqb _ _ c.if-entry-eq0-2.true)

pub returns : goal.returns
unfolding outside
returns c = rw (ne_eqb c.args.entry.row 0 (λ e. c.if-entry-eq0.false (omega arith)), le-ltb _ _ c.if-entry-size.false, ne_eqb _ _ c.if-entry-eq0-2.false)
