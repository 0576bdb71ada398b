-- `inside::put_piece` meets its contract.
-- Assumes nothing.
use native.Mathlib.Omega.{arith}
use Rattle.text.specs.Mma.{piece}
use Rattle.text.proofs.Pieces.{after_far}
use Rattle.text.proofs.Puts.{wrote_then}
use Rattle.text.proofs.inside.put_piece.Goals as goal

pub put_after-arrow-requires : goal.put_after-arrow-requires
put_after-arrow-requires c = omega (arith, after_far _ c.put_after-comma.ensures)

pub put_bytes-number-requires : goal.put_bytes-number-requires
put_bytes-number-requires c = omega (arith, after_far _ c.put_after-comma.ensures, after_far _ c.put_after-arrow.ensures)

pub put_decimal-requires : goal.put_decimal-requires
put_decimal-requires c = omega (arith, after_far _ c.put_after-comma.ensures, after_far _ c.put_after-arrow.ensures, c.put_bytes-number.ensures.next)

pub returns : goal.returns
unfolding piece
returns c = wrote_then (wrote_then c.put_after-comma.ensures c.put_after-arrow.ensures)
    (wrote_then c.put_bytes-number.ensures c.put_decimal.ensures)
