-- `walk_row` meets its contract: the row is loaded, walked, stored and wiped.
-- Assumes nothing.
use native.Mathlib.Omega.{arith}
use Rattle.taking.proofs.Takings.{first_low, takes_loads, takes_walks, takes_stores_l, takes_stores_u, takes_long, takes_none, takes_accepted}
use Rattle.taking.proofs.rows.walk_row.Goals as goal

pub overflow_cast-from : goal.overflow_cast-from
overflow_cast-from c = omega (arith, first_low c.requires, c.requires.narrow)

pub load-requires : goal.load-requires
load-requires c = takes_loads c.requires

pub walk-head-requires : goal.walk-head-requires
walk-head-requires c = takes_walks c.requires c.load.ensures

pub store_l-l_len-requires : goal.store_l-l_len-requires
store_l-l_len-requires c = takes_stores_l c.requires c.load.ensures c.walk-head.ensures c.limit_of-limit.ensures

pub returns-then-head-n : goal.returns-then-head-n
returns-then-head-n c = takes_none c.requires c.load.ensures c.walk-head.ensures c.limit_of-limit.ensures c.wipe.ensures c.if-head-n.true c.store_l-l_len.ensures

pub store_u-u_len-requires : goal.store_u-u_len-requires
store_u-u_len-requires c = takes_stores_u c.requires c.load.ensures c.walk-head.ensures c.limit_of-limit.ensures c.if-head-n.false

pub shape_of-dense : goal.shape_of-dense
shape_of-dense c = takes_long c.requires c.load.ensures c.walk-head.ensures c.limit_of-limit.ensures c.wipe-2.ensures

pub returns : goal.returns
returns c = takes_accepted c.requires c.load.ensures c.walk-head.ensures c.limit_of-limit.ensures c.wipe-2.ensures c.if-head-n.false c.store_l-l_len.ensures c.store_u-u_len.ensures
