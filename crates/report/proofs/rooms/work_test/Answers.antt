-- `work_test` meets its contract: 11, then 14.
-- Assumes nothing.
use mathlib.Core.Path.{refl}
use Rattle.sparse.proofs.Firsts.{lowest_stop, lowest_next, lowest_last}
use Rattle.report.specs.Work.{work_test}
use Rattle.report.proofs.Lengths.{refused_so, good_so}
use Rattle.report.proofs.rooms.work_test.Goals as goal

pub returns-then-is_narrow : goal.returns-then-is_narrow
unfolding work_test
returns-then-is_narrow c = lowest_stop _ (refused_so _ c.is_narrow.ensures c.if-is_narrow.true) refl

pub returns-then-is_short : goal.returns-then-is_short
unfolding work_test
returns-then-is_short c = lowest_next _ (good_so _ c.is_narrow.ensures c.if-is_narrow.false) refl (lowest_stop _ (refused_so _ c.is_short.ensures c.if-is_short.true) refl)

pub returns : goal.returns
unfolding work_test
returns c = lowest_next _ (good_so _ c.is_narrow.ensures c.if-is_narrow.false) refl (lowest_last (good_so _ c.is_short.ensures c.if-is_short.false))
