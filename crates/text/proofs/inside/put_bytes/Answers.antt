-- `inside::put_bytes` meets its contract. The loop's invariant: the first i bytes are written.
use lib.Seq.{take_all}
use Rattle.text.proofs.Puts.{wrote_none, wrote_then, wrote_as, wrote_length, take_more}
use Rattle.text.proofs.inside.put_bytes.Goals as goal

pub loop-byte-init : goal.loop-byte-init
loop-byte-init c = wrote_none

pub loop-byte-preserved : goal.loop-byte-preserved
loop-byte-preserved c = wrote_as (take_more _ _ c.loop-byte-test.true) (wrote_then c.loop-byte.invariant c.put_byte-next.ensures)

pub shape_of-text : goal.shape_of-text
shape_of-text c = wrote_length c.loop-byte.invariant

pub returns : goal.returns
returns c = wrote_as (take_all _ _ c.loop-byte-test.false) c.loop-byte.invariant
