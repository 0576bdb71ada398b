-- `inside::put_ending` meets its contract.
-- Assumes nothing.
use native.Mathlib.Omega.{arith}
use Rattle.text.specs.Writers.{ending}
use Rattle.text.proofs.Pieces.{after_far, decimal_far}
use Rattle.text.proofs.Puts.{wrote_then}
use Rattle.text.proofs.inside.put_ending.Goals as goal

pub put_after-end-requires : goal.put_after-end-requires
put_after-end-requires c = omega (arith, c.put_bytes-number.ensures.next, decimal_far _ c.put_decimal-comma.ensures)

pub put_bytes-requires : goal.put_bytes-requires
put_bytes-requires c = omega (arith, c.put_bytes-number.ensures.next, decimal_far _ c.put_decimal-comma.ensures, after_far _ c.put_after-end.ensures)

pub returns : goal.returns
unfolding ending
returns c = wrote_then
    (wrote_then (wrote_then c.put_bytes-number.ensures c.put_decimal-comma.ensures) c.put_after-end.ensures)
    c.put_bytes.ensures
