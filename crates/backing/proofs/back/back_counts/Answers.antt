-- `back_counts` meets its contract.
-- Assumes nothing.
use mathlib.Core.Path.{refl}
use Rattle.backing.specs.Back.{back_counts}
use Rattle.backing.proofs.back.back_counts.Goals as goal

pub returns : goal.returns
unfolding back_counts
returns c = refl
