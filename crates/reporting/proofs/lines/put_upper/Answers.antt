-- `put_upper` meets its contract.
-- Assumes nothing.
use mathlib.Core.Path.{sym}
use lib.Seq.{length-take-le}
use native.Mathlib.Omega.{arith}
use Rattle.text.proofs.Puts.{wrote_then, wrote_as}
use Rattle.reporting.proofs.Chains.{rows_ask, upper_far, ending_far, upper_text}
use Rattle.reporting.proofs.lines.put_upper.Goals as goal

pub slice_bounds-put_rows-end-2 : goal.slice_bounds-put_rows-end-2
slice_bounds-put_rows-end-2 c = sym (length-take-le _ _ c.requires.rows.columns)

pub slice_bounds-put_rows-end-3 : goal.slice_bounds-put_rows-end-3
slice_bounds-put_rows-end-3 c = sym (length-take-le _ _ c.requires.rows.numbers)

pub put_rows-end-requires : goal.put_rows-end-requires
put_rows-end-requires c = rows_ask c.requires (omega (arith, c.put_bytes-first.ensures.next))

pub put_ending-line-requires : goal.put_ending-line-requires
put_ending-line-requires c = omega (arith, upper_far c.requires (omega (arith, c.put_bytes-first.ensures.next)) c.put_rows-end.ensures)

pub put_byte-requires : goal.put_byte-requires
put_byte-requires c = omega (arith, upper_far c.requires (omega (arith, c.put_bytes-first.ensures.next)) c.put_rows-end.ensures, ending_far _ _ c.put_ending-line.ensures)

pub returns : goal.returns
returns c = wrote_as (upper_text _ _ _ _ _) (wrote_then (wrote_then (wrote_then c.put_bytes-first.ensures c.put_rows-end.ensures) c.put_ending-line.ensures) c.put_byte.ensures)
