-- `write_u` meets its contract: gathered, then scaled.
-- Assumes nothing.
use mathlib.Core.Path.{sym}
use lib.Seq.{length-take-le}
use Rattle.storing.proofs.UpperRows.{head_invertible, heads_gathers, heads_fits, heads_scales, heads_stored}
use Rattle.storing.proofs.upper.write_u.Goals as goal

pub gather-len-requires : goal.gather-len-requires
gather-len-requires c = heads_gathers c.requires

pub inverse-f-requires : goal.inverse-f-requires
inverse-f-requires c = head_invertible c.requires

pub slice_bounds-scale-end : goal.slice_bounds-scale-end
slice_bounds-scale-end c = heads_fits c.requires c.gather-len.ensures

pub slice_bounds-scale-end-2 : goal.slice_bounds-scale-end-2
slice_bounds-scale-end-2 c = sym (length-take-le _ _ (heads_fits c.requires c.gather-len.ensures))

pub scale-requires : goal.scale-requires
scale-requires c = heads_scales c.requires c.gather-len.ensures c.inverse-f.ensures

pub returns : goal.returns
returns c = heads_stored c.requires c.gather-len.ensures c.inverse-f.ensures c.scale.ensures
