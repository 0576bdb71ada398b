-- `put_right_row` meets its contract: the entries of a row's columns and values are the row's entries.
-- Assumes nothing.
use Rattle.sparse.specs.Matrix.{part, row}
use Rattle.moves.proofs.Rights.{right_row, right_asked}
use Rattle.moves.proofs.halves.put_right_row.Goals as goal

pub put_right-requires : goal.put_right-requires
unfolding row part
put_right-requires c = right_asked c.requires

pub returns : goal.returns
unfolding row part
returns c = rw (right_row c.requires) at c.put_right.ensures
