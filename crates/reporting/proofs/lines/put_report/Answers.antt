-- `put_report` meets its contract.
-- Assumes nothing.
use native.Mathlib.Omega.{arith}
use Rattle.text.proofs.Puts.{wrote_then}
use Rattle.reporting.specs.Text.{upper_of, report_text}
use Rattle.reporting.proofs.Chains.{heading_far}
use Rattle.reporting.proofs.lines.put_report.Goals as goal

pub put_upper-requires : goal.put_upper-requires
put_upper-requires c = record { rows = c.requires; near = omega (arith, heading_far _ _ c.put_heading-next.ensures) }

pub returns : goal.returns
unfolding report_text upper_of
returns c = wrote_then c.put_heading-next.ensures c.put_upper.ensures
