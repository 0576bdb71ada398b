-- `inside::put_placed` meets its contract, in a row and in a column.
-- Assumes nothing.
use Rattle.text.specs.Writers.{placed}
use Rattle.text.proofs.inside.put_placed.Goals as goal

pub returns-in-Row : goal.returns-in-Row
unfolding placed
returns-in-Row c = rw c.in-Row.is c.put_piece.ensures

pub returns-in-Column : goal.returns-in-Column
unfolding placed
returns-in-Column c = rw c.in-Column.is c.put_piece-in-Column.ensures
