-- `inside::put_after` meets its contract.
-- Assumes nothing.
use Rattle.text.proofs.Puts.{wrote_then}
use Rattle.text.proofs.inside.put_after.Goals as goal

pub returns : goal.returns
returns c = wrote_then c.put_byte-next.ensures c.put_decimal.ensures
