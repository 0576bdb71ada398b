-- `write_pointers` meets its contract. The loop's invariant: the pointers up to `row` are written, and `start` is the last of them.
-- Assumes nothing.
use mathlib.Core.Path.{sym}
use native.Mathlib.Omega.{arith}
use lib.ListN.{length-set}
use Rattle.triplets.proofs.Pointers.{pointers_first, pointers_more, pointers_all}
use Rattle.triplets.proofs.Starts.{start_zero}
use Rattle.triplets.proofs.inside.write_pointers.Goals as goal

pub loop-row-init : goal.loop-row-init
loop-row-init c = (sym (start_zero c.args.rows.now), pointers_first c.args.rows.now c.args.row_ptrs.now (omega arith))

pub loop-row-preserved : goal.loop-row-preserved
loop-row-preserved c = let long = length-set c.args.row_ptrs.now 0 0 in (c.row_end-start.ensures, pointers_more _ _ _ _ _ c.loop-row.invariant.1 c.row_end-start.ensures (omega arith))

pub returns : goal.returns
returns c = pointers_all _ _ _ _ _ c.loop-row.invariant.1 (omega arith)
