-- `inside::put_line` meets its contract. The loop's invariant: the pieces of the entries before k are written.
use native.Mathlib.Omega.{arith}
use Rattle.text.proofs.Pieces.{line_none, line_next, line_far, line_all}
use Rattle.text.proofs.Puts.{wrote_length}
use Rattle.text.proofs.inside.put_line.Goals as goal

pub loop-k-init : goal.loop-k-init
loop-k-init c = line_none (omega arith)

pub put_entry-next-requires : goal.put_entry-next-requires
put_entry-next-requires c = omega (arith, line_far _ _ _ _ _ (omega arith) c.loop-k.invariant.wrote)

pub loop-k-preserved : goal.loop-k-preserved
loop-k-preserved c = line_next c.loop-k.invariant c.loop-k-test.true c.requires.numbers c.put_entry-next.ensures

pub shape_of-text : goal.shape_of-text
shape_of-text c = wrote_length c.loop-k.invariant.wrote

pub returns : goal.returns
returns c = line_all c.loop-k.invariant c.loop-k-test.false
