-- `start_test` meets its contract: each `return` goes by the parts of the clause before it.
-- Assumes nothing.
use mathlib.Core.Path.{sym, ◌∙◌}
use mathlib.Core.Bool.{and-false}
use borrow.Author.Tests.{eq-eqb, ne_eqb}
use native.Mathlib.Omega.{arith}
use lib.ListN.{length}
use Rattle.sparse.specs.Refusals.{refuse}
use Rattle.state.specs.Fresh.{start_test}
use Rattle.state.proofs.start.start_test.Goals as goal

pub returns-then-u_ptrs-eq0 : goal.returns-then-u_ptrs-eq0
unfolding start_test refuse
returns-then-u_ptrs-eq0 c = rw (eq-eqb _ _ c.if-u_ptrs-eq0.true)

pub returns-then-l_ptrs-gt0 : goal.returns-then-l_ptrs-gt0
unfolding start_test refuse
returns-then-l_ptrs-gt0 c = rw (ne_eqb _ _ c.if-u_ptrs-eq0.false, ne_eqb (length c.args.l_ptrs.now) 0 (λ e. omega (arith, c.if-l_ptrs-gt0.true)), and-false)

pub returns-then-keeps_l : goal.returns-then-keeps_l
unfolding start_test refuse
returns-then-keeps_l c = rw (ne_eqb _ _ c.if-u_ptrs-eq0.false, eq-eqb (length c.args.l_ptrs.now) 0 (omega (arith, c.if-l_ptrs-gt0.false)), sym c.keeps_l.ensures ∙ c.if-keeps_l.true)

pub returns : goal.returns
unfolding start_test refuse
returns c = rw (ne_eqb _ _ c.if-u_ptrs-eq0.false, sym c.keeps_l.ensures ∙ c.if-keeps_l.false)
