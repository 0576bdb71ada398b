-- `residue::sub` meets its contract: the difference with p added is below p, or one p less is.
-- Assumes nothing.
use native.Mathlib.Omega.{arith}
use Rattle.field.proofs.Leaves.{leaves_itself, leaves_less}
use Rattle.field.proofs.residue.sub.Goals as goal

pub returns-then-b-a : goal.returns-then-b-a
returns-then-b-a c = leaves_less (omega arith) (omega arith)

pub returns-else-b-a : goal.returns-else-b-a
returns-else-b-a c = leaves_itself (omega arith)
