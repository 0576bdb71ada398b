-- `is_falling` meets its contract: the heads of two rows are compared.
-- Assumes nothing.
use Prim.Native.Nat.{◌-◌}
use native.Mathlib.Nat.{le_refl}
use native.Mathlib.Omega.{arith}
use borrow.Author.Tests.{lt-ltb, le-ltb}
use Rattle.judging.proofs.entries.is_falling.Goals as goal

pub returns-then-at-eq0 : goal.returns-then-at-eq0
returns-then-at-eq0 c = rw (le-ltb 0 c.args.at (omega (arith, c.if-at-eq0.true)))

pub overflow_cast-row : goal.overflow_cast-row
overflow_cast-row c = record { fits = omega (arith, c.type_inv.l_cols c.args.at) }

pub head_of-head-requires : goal.head_of-head-requires
head_of-head-requires c = c.requires.heads _ (le_refl _)

pub overflow_cast-before : goal.overflow_cast-before
overflow_cast-before c = record { fits = omega (arith, c.type_inv.l_cols (c.args.at - 1)) }

pub head_of-requires : goal.head_of-requires
head_of-requires c = c.requires.heads _ (omega arith)

pub returns : goal.returns
returns c = rw (lt-ltb 0 c.args.at (omega (arith, c.if-at-eq0.false)), c.head_of-head.ensures, c.head_of.ensures)
