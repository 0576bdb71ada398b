-- `add_u_row` meets its contract: a part of U's lists is lent.
-- Assumes nothing.
use Rattle.sparse.specs.Matrix.{part, row}
use Rattle.judging.proofs.Multiples.{row_adds, added_row}
use Rattle.judging.proofs.products.add_u_row.Goals as goal

pub add_multiple-requires : goal.add_multiple-requires
unfolding row part
add_multiple-requires c = row_adds c.requires

pub returns : goal.returns
unfolding row part
returns c = added_row c.requires _ c.add_multiple.ensures
