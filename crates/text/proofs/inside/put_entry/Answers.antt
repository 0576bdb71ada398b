-- `inside::put_entry` meets its contract: piece 0 has no comma before it, any other has.
-- Assumes nothing.
use Rattle.text.proofs.Pieces.{link_first, link_later}
use Rattle.text.proofs.Puts.{wrote_then, wrote_as}
use Rattle.text.proofs.inside.put_entry.Goals as goal

pub returns-then-k-eq0 : goal.returns-then-k-eq0
returns-then-k-eq0 c = wrote_as (link_first _ c.if-k-eq0.true) c.put_placed.ensures

pub returns : goal.returns
returns c = wrote_as (link_later _ _ c.if-k-eq0.false) (wrote_then c.put_byte-next.ensures c.put_placed-2.ensures)
