-- `wider_counts` meets its contract.
-- Assumes nothing.
use mathlib.Core.Path.{refl}
use Rattle.widening.specs.AddCols.{wider_counts}
use Rattle.widening.proofs.places.wider_counts.Goals as goal

pub returns : goal.returns
unfolding wider_counts
returns c = refl
