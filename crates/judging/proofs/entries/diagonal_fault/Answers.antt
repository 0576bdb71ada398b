-- `diagonal_fault` meets its contract: each `return` goes by the parts of the clause before it.
-- Assumes nothing.
use mathlib.Core.Path.{sym, ◌∙◌}
use Prim.Native.Nat.{◌-◌}
use native.Mathlib.Omega.{arith}
use lib.ListN.{length}
use borrow.Author.Tests.{eq-eqb, ne_eqb}
use Rattle.judging.proofs.Names.{diagonal_none, diagonal_is}
use Rattle.judging.proofs.entries.diagonal_fault.Goals as goal

pub returns-then-l_cols-eq0 : goal.returns-then-l_cols-eq0
returns-then-l_cols-eq0 c = diagonal_none c.requires _ c.if-l_cols-eq0.true

pub some_astray-requires : goal.some_astray-requires
some_astray-requires c = record { all = c.requires; within = omega arith }

pub returns-then-some_astray : goal.returns-then-some_astray
returns-then-some_astray c = sym (diagonal_is c.requires _ (omega (arith, c.if-l_cols-eq0.false)) ∙ rw (sym c.some_astray.ensures ∙ c.if-some_astray.true))

pub overflow_cast-row : goal.overflow_cast-row
overflow_cast-row c = record { fits = omega (arith, c.type_inv.l_cols (length c.args.l_cols.now - 1)) }

pub returns-then-row-earlier : goal.returns-then-row-earlier
returns-then-row-earlier c = sym (diagonal_is c.requires _ (omega (arith, c.if-l_cols-eq0.false)) ∙ rw (sym c.some_astray.ensures ∙ c.if-some_astray.false, ne_eqb _ _ c.if-row-earlier.true))

pub returns : goal.returns
returns c = c.is_unstorable.ensures ∙ sym (diagonal_is c.requires _ (omega (arith, c.if-l_cols-eq0.false)) ∙ rw (sym c.some_astray.ensures ∙ c.if-some_astray.false, eq-eqb _ _ c.if-row-earlier.false))
