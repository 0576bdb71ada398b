-- `clear_row` meets its contract: the row is loaded, walked, stored and wiped.
-- Assumes nothing.
use native.Mathlib.Omega.{arith}
use Rattle.taking.proofs.Takings.{first_low, takes_loads, takes_walks}
use Rattle.backing.proofs.Clearings.{clears_stores, clears_returns}
use Rattle.backing.proofs.rows.clear_row.Goals as goal

pub overflow_cast-from : goal.overflow_cast-from
overflow_cast-from c = omega (arith, first_low (c.requires.takes), c.requires.takes.narrow)

pub load-requires : goal.load-requires
load-requires c = takes_loads (c.requires.takes)

pub walk-head-requires : goal.walk-head-requires
walk-head-requires c = takes_walks (c.requires.takes) c.load.ensures

pub store_u-len-requires : goal.store_u-len-requires
store_u-len-requires c = clears_stores c.requires c.load.ensures c.walk-head.ensures

pub returns : goal.returns
returns c = clears_returns c.requires c.load.ensures c.walk-head.ensures c.wipe.ensures c.store_u-len.ensures
