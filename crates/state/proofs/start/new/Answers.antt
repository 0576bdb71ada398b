-- `new` meets its contract: refused by its tests, or opened.
-- Assumes nothing.
use mathlib.Core.Path.{sym, ◌∙◌}
use Rattle.sparse.proofs.Firsts.{handed}
use Rattle.sparse.specs.Lent.{unless}
use Rattle.state.specs.Fresh.{new}
use Rattle.state.proofs.Starts.{startable}
use Rattle.state.proofs.start.new.Goals as goal

pub returns-in_err-new_test : goal.returns-in_err-new_test
unfolding new unless
returns-in_err-new_test c = rw (handed c.from_residual.ensures.1) (rw (← c.new_test.ensures, c.in_err-new_test.was))

pub start-requires : goal.start-requires
start-requires c = startable _ _ _ _ (sym c.new_test.ensures ∙ c.in_ok-new_test.was)

pub returns : goal.returns
unfolding new unless
returns c = rw (← c.new_test.ensures, c.in_ok-new_test.was, c.start.ensures, c.fresh_counts.ensures)
