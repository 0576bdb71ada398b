-- `is_astray` meets its contract: each `return` goes by the parts of the clause before it.
-- Assumes nothing.
use native.Mathlib.Omega.{arith}
use Rattle.judging.proofs.Names.{astray_later, astray_falls, astray_value, placed_follows}
use Rattle.judging.proofs.entries.is_astray.Goals as goal

pub overflow_cast-row : goal.overflow_cast-row
overflow_cast-row c = record { fits = omega (arith, c.type_inv.l_cols c.args.at) }

pub returns-then-row-earlier : goal.returns-then-row-earlier
returns-then-row-earlier c = astray_later c.requires.all _ _ c.requires.within c.if-row-earlier.true

pub is_falling-requires : goal.is_falling-requires
is_falling-requires c = placed_follows c.requires c.if-row-earlier.false

pub returns-then-is_falling : goal.returns-then-is_falling
returns-then-is_falling c = astray_falls c.requires.all _ _ c.requires.within c.if-row-earlier.false c.is_falling.ensures c.if-is_falling.true

pub returns : goal.returns
returns c = astray_value c.requires.all _ _ c.requires.within c.if-row-earlier.false c.is_falling.ensures c.if-is_falling.false c.is_unstorable.ensures
