-- `write_part` meets its contract: gathered, then the last where there is one.
-- Assumes nothing.
use native.Mathlib.Omega.{arith}
use Rattle.storing.proofs.LowerRows.{ends_gathers, last_slot, part_with, part_without}
use Rattle.storing.proofs.lower.write_part.Goals as goal

pub gather-len-requires : goal.gather-len-requires
gather-len-requires c = ends_gathers c.requires

pub offset_bounds-out-len : goal.offset_bounds-out-len
offset_bounds-out-len c = omega (arith, last_slot c.requires c.gather-len.ensures c.if-head-dense.true)

pub bounds-out-len : goal.bounds-out-len
bounds-out-len c = last_slot c.requires c.gather-len.ensures c.if-head-dense.true

pub overflow_add-result : goal.overflow_add-result
overflow_add-result c = omega (arith, last_slot c.requires c.gather-len.ensures c.if-head-dense.true)

pub returns-then-head-dense : goal.returns-then-head-dense
returns-then-head-dense c = part_with c.requires c.gather-len.ensures c.if-head-dense.true

pub returns : goal.returns
returns c = part_without c.requires c.gather-len.ensures c.if-head-dense.false
