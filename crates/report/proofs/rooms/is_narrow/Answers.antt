-- `is_narrow` meets its contract.
-- Assumes nothing.
use mathlib.Core.Path.{refl}
use Rattle.report.specs.Work.{short}
use Rattle.report.proofs.rooms.is_narrow.Goals as goal

pub returns : goal.returns
unfolding short
returns c = refl
