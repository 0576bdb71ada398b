-- `last_in` meets its contract: columns climb, so only the row's last entry can stand in the last column.
-- Assumes nothing.
use Prim.Native.Nat.{◌-◌}
use native.Mathlib.Omega.{arith}
use lib.ListN.{length}
use Rattle.meaning.proofs.Values.{columns_climb}
use Rattle.lasts.specs.Gathers.{held}
use Rattle.lasts.proofs.Ends.{last_none, last_other, last_one}
use Rattle.lasts.proofs.gather.last_in.Goals as goal

pub returns-then-cols-eq0 : goal.returns-then-cols-eq0
unfolding held
returns-then-cols-eq0 c = last_none _ _ _ c.requires.same (λ i l. absurd (omega arith))

pub overflow_add-cols : goal.overflow_add-cols
overflow_add-cols c = record { fits = omega (arith, (columns_climb _ _ c.requires.good).below (length c.args.cols.now - 1) (omega arith), c.ranges.ncols) }

pub returns-then-cols-end : goal.returns-then-cols-end
unfolding held
returns-then-cols-end c = last_other _ _ _ c.requires.same (columns_climb _ _ c.requires.good) (length c.args.cols.now - 1) (omega arith) (λ e. omega (arith, c.if-cols-end.true))

pub returns : goal.returns
unfolding held
returns c = last_one _ _ _ c.requires.same (columns_climb _ _ c.requires.good) (length c.args.cols.now - 1) (omega arith) (omega (arith, c.if-cols-end.false))
