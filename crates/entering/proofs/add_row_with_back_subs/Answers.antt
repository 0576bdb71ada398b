-- `add_row_with_back_subs` meets its contract: the row is added by value, and the counts are kept.
-- Assumes nothing.
use Rattle.entering.proofs.Enters.{enter_returns}
use Rattle.entering.proofs.add_row_with_back_subs.Goals as goal

pub returns : goal.returns
returns c = enter_returns _ _ _ _ _ c.add_row_with_back_subs-added.ensures c.keep.ensures
