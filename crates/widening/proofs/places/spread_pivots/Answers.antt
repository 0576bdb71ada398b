-- `spread_pivots` meets its contract. The loop's invariant: from the place after the columns left on, the table is spread.
-- Assumes nothing.
use Prim.Native.Nat.{◌-◌}
use native.Mathlib.Omega.{arith}
use Rattle.sparse.specs.Pivots.{mark}
use Rattle.widening.proofs.Spreading.{spreading_none, spreading_mark, spreading_move, spreading_all}
use Rattle.widening.proofs.places.spread_pivots.Goals as goal

pub loop-left-init : goal.loop-left-init
loop-left-init c = spreading_none c.requires

pub overflow_cast-positions : goal.overflow_cast-positions
overflow_cast-positions c = omega (arith, c.type_inv.positions (c.loop-left.left - 1))

pub loop-left-preserved-then-positions-left : goal.loop-left-preserved-then-positions-left
unfolding mark
loop-left-preserved-then-positions-left c = spreading_mark c.requires c.loop-left.invariant (omega arith) c.if-positions-left.true

pub loop-left-preserved : goal.loop-left-preserved
loop-left-preserved c = spreading_move c.requires c.loop-left.invariant (omega arith) c.if-positions-left.false

pub shape_of-pivots : goal.shape_of-pivots
shape_of-pivots c = c.loop-left.invariant.written.same

pub returns : goal.returns
returns c = spreading_all c.requires c.loop-left.invariant c.loop-left-test.false
