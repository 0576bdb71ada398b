-- `residue::add` meets its contract: the sum is below p, or one p less is.
-- Assumes nothing.
use native.Mathlib.Omega.{arith}
use Rattle.field.proofs.Leaves.{leaves_itself, leaves_less}
use Rattle.field.proofs.residue.add.Goals as goal

pub returns-then-a-room : goal.returns-then-a-room
returns-then-a-room c = leaves_itself (omega arith)

pub returns-else-a-room : goal.returns-else-a-room
returns-else-a-room c = leaves_less (omega arith) (omega arith)
