-- `write_l` meets its contract, by what is kept.
-- Assumes nothing.
use mathlib.Core.Path.{ap}
use Rattle.state.specs.Fresh.{keeps}
use Rattle.storing.specs.Counted.{kept_row}
use Rattle.storing.proofs.LowerRows.{keeps_cols, keeps_vals, kept_full, kept_pattern}
use Rattle.storing.proofs.lower.write_l.Goals as goal

pub write_part-requires : goal.write_part-requires
write_part-requires c = keeps_vals _ _ _ _ _ c.requires c.in-Full.is c.value_at-last.ensures

pub write_part-requires-in-Full : goal.write_part-requires-in-Full
unfolding keeps
write_part-requires-in-Full c = keeps_cols _ _ _ _ _ c.requires (ap keeps c.in-Full.is)

pub write_part-requires-in-Pattern : goal.write_part-requires-in-Pattern
unfolding keeps
write_part-requires-in-Pattern c = keeps_cols _ _ _ _ _ c.requires (ap keeps c.in-Pattern.is)

pub returns-in-Full : goal.returns-in-Full
returns-in-Full c = kept_full _ _ _ _ _ c.requires c.in-Full.is c.value_at-last.ensures c.write_part.ensures c.write_part-in-Full.ensures

pub returns-in-Pattern : goal.returns-in-Pattern
returns-in-Pattern c = kept_pattern _ _ _ _ _ c.requires c.in-Pattern.is c.write_part-in-Pattern.ensures

pub returns-in-None : goal.returns-in-None
unfolding kept_row
returns-in-None c = rw c.in-None.is
