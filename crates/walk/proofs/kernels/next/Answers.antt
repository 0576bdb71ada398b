-- `next` meets its contract. The loop's invariant: zeros up to `at`.
-- Assumes nothing.
use Rattle.walk.proofs.DenseLaws.{searched_none, searched_more, searched_found, searched_all}
use Rattle.walk.proofs.kernels.next.Goals as goal

pub loop-at-init : goal.loop-at-init
loop-at-init c = searched_none _ _

pub returns-then-dense-at-ne0 : goal.returns-then-dense-at-ne0
returns-then-dense-at-ne0 c = searched_found c.loop-at.invariant c.loop-at-test.true c.if-dense-at-ne0.true

pub loop-at-preserved : goal.loop-at-preserved
loop-at-preserved c = searched_more c.loop-at.invariant c.if-dense-at-ne0.false

pub returns : goal.returns
returns c = searched_all c.loop-at.invariant c.requires c.loop-at-test.false
