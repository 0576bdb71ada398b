-- `writing::inside::put_entry` meets its contract.
-- Assumes nothing.
use Rattle.writing.proofs.Puts.{put_entry}
use Rattle.writing.proofs.inside.put_entry.Goals as goal

-- src/inside.rt:9:1
pub returns : goal.returns
returns c = let a = c.args in
    put_entry a.col a.val a.at a.col_idcs.now a.values.now c.requires
