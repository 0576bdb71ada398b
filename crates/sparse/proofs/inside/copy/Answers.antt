-- `copy` meets its contract: each turn copies one element.
-- Assumes nothing.
use mathlib.Core.Path.{◌∙◌}
use Rattle.lists.proofs.Ontos.{copy_none, copy_more, copy_all}
use Rattle.sparse.proofs.inside.copy.Goals as goal

pub loop-i-init : goal.loop-i-init
loop-i-init c = copy_none c.args.src.now c.args.dst.now

pub loop-i-preserved : goal.loop-i-preserved
loop-i-preserved c = rw c.loop-i.invariant (copy_more _ _ _ _ c.loop-i-test.true c.requires)

pub returns : goal.returns
returns c = c.loop-i.invariant ∙ copy_all _ _ _ c.loop-i-test.false
