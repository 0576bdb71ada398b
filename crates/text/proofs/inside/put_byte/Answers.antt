-- `inside::put_byte` meets its contract: a byte past the end of the text changes nothing.
-- Assumes nothing.
use Rattle.text.proofs.Puts.{wrote_past}
use Rattle.text.proofs.inside.put_byte.Goals as goal

pub returns : goal.returns
returns c = wrote_past c.if-at-text.false
