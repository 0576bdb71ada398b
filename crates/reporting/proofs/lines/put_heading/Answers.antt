-- `put_heading` meets its contract.
-- Assumes nothing.
use native.Mathlib.Omega.{arith}
use Rattle.text.proofs.Pieces.{decimal_far}
use Rattle.text.proofs.Puts.{wrote_then, wrote_as}
use Rattle.reporting.proofs.Chains.{worth_far, heading_text}
use Rattle.reporting.proofs.lines.put_heading.Goals as goal

pub put_bytes-worth-requires : goal.put_bytes-worth-requires
put_bytes-worth-requires c = omega (arith, c.put_bytes-number.ensures.next, decimal_far _ c.put_decimal-line.ensures)

pub put_worth-end-requires : goal.put_worth-end-requires
put_worth-end-requires c = omega (arith, c.put_bytes-number.ensures.next, decimal_far _ c.put_decimal-line.ensures, c.put_bytes-worth.ensures.next)

pub put_byte-requires : goal.put_byte-requires
put_byte-requires c = omega (arith, c.put_bytes-number.ensures.next, decimal_far _ c.put_decimal-line.ensures, c.put_bytes-worth.ensures.next, worth_far _ c.put_worth-end.ensures)

pub returns : goal.returns
returns c = wrote_as (heading_text _ _) (wrote_then (wrote_then (wrote_then (wrote_then c.put_bytes-number.ensures c.put_decimal-line.ensures) c.put_bytes-worth.ensures) c.put_worth-end.ensures) c.put_byte.ensures)
