-- `misses_row` meets its contract. The loop's invariant: each row before `row` is named exactly once.
-- Assumes nothing.
use mathlib.Core.Path.{◌≡◌, sym, ◌∙◌}
use native.Mathlib.Omega.{arith}
use borrow.Author.Tests.{eq-eqb, ne_eqb}
use lib.Dec.{eqb}
use Rattle.lists.specs.Find.{count}
use Rattle.sparse.specs.Pivots.{mark, named}
use Rattle.pivots.proofs.PivotTables.{named_count}
use Rattle.lists.proofs.Scans.{clear_none, clear_next, clear_stop, clear_all}
use Rattle.pivots.proofs.inside.misses_row.Goals as goal
use Rattle.pivots.proofs.inside.misses_row.Goals.{After-times_named}

-- how often the row is named
times : (c : After-times_named) → count (eqb c.loop-row.row) (named c.args.pivots.now) ≡ c.times_named.result
unfolding mark
times c = named_count c.loop-row.row c.args.pivots.now (omega (arith, c.loop-row-test.true, c.ranges.nrows)) ∙ sym c.times_named.ensures

pub loop-row-init : goal.loop-row-init
loop-row-init c = clear_none _ _

pub returns-then-times_named-ne1 : goal.returns-then-times_named-ne1
returns-then-times_named-ne1 c = clear_stop c.loop-row.invariant c.loop-row-test.true (rw (times (goal.at.returns-then-times_named-ne1 c).After-times_named, ne_eqb c.times_named.result 1 (λ e. omega arith)))

pub loop-row-preserved : goal.loop-row-preserved
loop-row-preserved c = clear_next c.loop-row.invariant c.loop-row-test.true (rw (times (goal.at.loop-row-preserved c).After-times_named, eq-eqb c.times_named.result 1 (omega arith)))

pub returns : goal.returns
returns c = clear_all c.loop-row.invariant c.loop-row-test.false
