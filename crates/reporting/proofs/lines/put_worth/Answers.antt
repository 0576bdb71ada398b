-- `put_worth` meets its contract.
-- Assumes nothing.
use Rattle.reporting.specs.Text.{worth_text}
use Rattle.reporting.proofs.lines.put_worth.Goals as goal

pub returns-in-Some : goal.returns-in-Some
unfolding worth_text
returns-in-Some c = rw c.in-Some.is c.put_decimal.ensures

pub returns-in-None : goal.returns-in-None
unfolding worth_text
returns-in-None c = rw c.in-None.is c.put_bytes.ensures
