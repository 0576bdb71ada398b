-- `writing::inside::put_row` meets its contract: each copy goes to the part of the lent memory from `at` on.
-- Assumes nothing.
use Rattle.writing.proofs.Puts.{put_entries_lem}
use Rattle.writing.proofs.inside.put_row.Goals as goal

-- src/inside.rt:19:1
pub returns : goal.returns
returns c = let a = c.args in
    put_entries_lem a.cols.now a.vals.now a.at a.col_idcs.now a.values.now _ _ c.requires.same c.copy.ensures c.copy-2.ensures
