-- `inside::put_matrix` meets its contract.
-- Assumes nothing.
use native.Mathlib.Omega.{arith}
use Rattle.text.proofs.Pieces.{rows_far}
use Rattle.text.proofs.Puts.{wrote_then, wrote_as}
use Rattle.text.proofs.Texts.{matrix_text_lem}
use Rattle.text.proofs.inside.put_matrix.Goals as goal

pub put_ending-requires : goal.put_ending-requires
put_ending-requires c = omega (arith, c.put_bytes-first.ensures.next, rows_far c.requires c.put_rows-end.ensures)

pub returns : goal.returns
returns c = wrote_as (matrix_text_lem _ _ _ _ _)
    (wrote_then (wrote_then c.put_bytes-first.ensures c.put_rows-end.ensures) c.put_ending.ensures)
