-- `residue::neg` meets its contract: p - a is below p, but at 0, where one p less is.
-- Assumes nothing.
use native.Mathlib.Omega.{arith}
use Rattle.field.proofs.Leaves.{leaves_itself, leaves_less}
use Rattle.field.proofs.residue.neg.Goals as goal

pub returns-then-a-eq0 : goal.returns-then-a-eq0
returns-then-a-eq0 c = leaves_less (omega arith) (omega arith)

pub returns-else-a-eq0 : goal.returns-else-a-eq0
returns-else-a-eq0 c = leaves_itself (omega (arith, c.if-a-eq0.false))
