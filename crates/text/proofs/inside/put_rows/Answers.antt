-- `inside::put_rows` meets its contract. The loop's invariant: the pieces of the rows before row i are written.
use Rattle.text.proofs.Pieces.{rows_none, rows_next, row_ask, rows_all}
use Rattle.text.proofs.Puts.{wrote_length}
use Rattle.text.proofs.inside.put_rows.Goals as goal

pub loop-i-init : goal.loop-i-init
loop-i-init c = rows_none

pub put_line-next-requires : goal.put_line-next-requires
put_line-next-requires c = row_ask c.requires c.loop-i.invariant c.loop-i-test.true

pub loop-i-preserved : goal.loop-i-preserved
loop-i-preserved c = rows_next c.requires c.loop-i.invariant c.loop-i-test.true c.put_line-next.ensures

pub shape_of-text : goal.shape_of-text
shape_of-text c = wrote_length c.loop-i.invariant.wrote

pub returns : goal.returns
returns c = rows_all c.loop-i.invariant c.loop-i-test.false
