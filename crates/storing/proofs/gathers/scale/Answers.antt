-- `scale` meets its contract. The loop's invariant: the first k entries are written.
-- Assumes nothing.
use mathlib.Core.Path.{◌∙◌}
use Rattle.lists.proofs.Ontos.{copy_none}
use Rattle.storing.specs.Gathers.{scaled}
use Rattle.storing.proofs.Gathering.{scale_more, scale_all}
use Rattle.storing.proofs.gathers.scale.Goals as goal

pub loop-k-init : goal.loop-k-init
loop-k-init c = copy_none (scaled c.args.p c.args.f c.args.dense.now c.args.cols.now) _

pub bounds-dense-col : goal.bounds-dense-col
bounds-dense-col c = c.requires.below _ c.loop-k-test.true

pub mul-requires : goal.mul-requires
mul-requires c = record { left = c.requires.small _ (c.requires.below c.loop-k.k c.loop-k-test.true); right = c.requires.factor }

pub loop-k-preserved : goal.loop-k-preserved
loop-k-preserved c = rw c.loop-k.invariant (scale_more _ _ _ _ _ c.requires.room _ c.loop-k-test.true c.mul.ensures)

pub returns : goal.returns
returns c = c.loop-k.invariant ∙ scale_all _ _ _ _ _ c.requires.room _ c.loop-k-test.false
