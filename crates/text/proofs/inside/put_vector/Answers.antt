-- `inside::put_vector` meets its contract.
-- Assumes nothing.
use native.Mathlib.Omega.{arith}
use Rattle.text.proofs.Pieces.{line_far}
use Rattle.text.proofs.Puts.{wrote_then, wrote_as}
use Rattle.text.proofs.Texts.{vector_text_lem}
use Rattle.text.proofs.inside.put_vector.Goals as goal

pub put_ending-requires : goal.put_ending-requires
put_ending-requires c = omega (arith, c.put_bytes-first.ensures.next, line_far _ _ _ _ _ (omega arith) c.put_line-end.ensures)

pub returns : goal.returns
returns c = wrote_as (vector_text_lem _ _ _)
    (wrote_then (wrote_then c.put_bytes-first.ensures c.put_line-end.ensures) c.put_ending.ensures)
