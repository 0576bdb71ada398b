-- `put_right` meets its contract: each turn skips one entry or writes it.
use native.Mathlib.Omega.{arith}
use Rattle.moves.proofs.Rights.{right_start, right_skip, right_ready, right_next, right_end, right_keeps}
use Rattle.moves.proofs.halves.put_right.Goals as goal

pub loop-k-init : goal.loop-k-init
loop-k-init c = right_start _ _ _ _ _ _

pub loop-k-preserved-then-col-h : goal.loop-k-preserved-then-col-h
loop-k-preserved-then-col-h c = right_skip c.requires c.loop-k.invariant c.loop-k-test.true c.if-col-h.true

pub put_entry-next-requires : goal.put_entry-next-requires
put_entry-next-requires c = right_ready c.requires c.loop-k.invariant c.loop-k-test.true c.if-col-h.false

pub loop-k-preserved : goal.loop-k-preserved
loop-k-preserved c = right_next c.requires c.loop-k.invariant c.loop-k-test.true c.if-col-h.false c.put_entry-next.ensures

pub shape_of-out_cols : goal.shape_of-out_cols
shape_of-out_cols c = (right_keeps c.requires c.loop-k.invariant).0

pub shape_of-out_vals : goal.shape_of-out_vals
shape_of-out_vals c = (right_keeps c.requires c.loop-k.invariant).1

pub returns : goal.returns
returns c = right_end c.requires c.loop-k.invariant (omega (arith, c.loop-k-test.false))
